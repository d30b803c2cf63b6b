-- Conversations that go on by a line, and pieces of the bytes.
use Rattle.std.proofs.{Math.Seq.{take-add}, lemmas.List.{take-append-drop, take_rest}}
use Rattle.std.proofs.Common.{◌-◌, ◌≡◌, ◌+◌, ℕ, [], ◌∷◌, ◌++◌, ◌∙◌, Bool, Err, List, MatchBool, Ok, Result, ap, append-nil, append_assoc, arith, drop, false, length, refl, subst, sym, take, true}
use Rattle.fb_bench.specs.Calls.{Exchange}
use Rattle.fb_wire.specs.{Lines.{Fits, IsLine, is_blank, lines_of}, Ends.{AnsweredEnded, IsNothing, OutputAt}}
use Rattle.fb_wire.specs.{Progress.{ConversationAt, Extends, LineSaid, PieceTaken}, Conversations.{AnswersLine, AnswersLines, Jobs, BeginsWith, Plan, Runs, plan_of}}
use Rattle.fb_wire.specs.declared.end.RunEnd.{RunEnd}
use Rattle.fb_messages.specs.Requests.{request_of}
use Rattle.fb_wire.specs.declared.end.RunEnd.TheVariants as end
use Rattle.fb_wire.proofs.{Cuts.{after_line, after_part}, Conversations.{Runs-append}}

pub none_fits : Fits []
none_fits = omega arith

pub AnswersLines-snoc : (has_reads : Bool) (lines : List (List ℕ)) (line : List ℕ) (held mid after : Jobs) (ps qs : List Exchange) (out more : List ℕ)
    → AnswersLines has_reads lines held ps out mid → Fits line → AnswersLine has_reads line mid qs more after → AnswersLines has_reads (lines ++ line ∷ []) held (ps ++ qs) (out ++ more) after
AnswersLines-snoc has_reads [] line held mid after ps qs out more t fits last =
    let P : Jobs → Type 0 = λ j. AnswersLine has_reads line j qs more after in
    (qs, [], more, [], after, ap (λ xs. xs ++ qs) t.0 ∙ sym (append-nil qs), ap (λ xs. xs ++ more) t.1 ∙ sym (append-nil more), fits, subst P t.2 last, (refl, refl, refl))
AnswersLines-snoc has_reads (l ∷ ls) line held mid after ps qs out more t fits last = (
  t.0,
  t.1 ++ qs,
  t.2,
  t.3 ++ more,
  t.4,
  ap (λ xs. xs ++ qs) t.5 ∙ append_assoc t.0 t.1 qs,
  ap (λ xs. xs ++ more) t.6 ∙ append_assoc t.2 t.3 more,
  t.7,
  t.8,
  AnswersLines-snoc has_reads ls line t.4 mid after t.1 qs t.3 more t.9 fits last,
)

-- of a line that was not looked at nothing was asked or said
nothing_yet : (blank : Bool) (plan : Plan) → MatchBool blank ((◌≡◌ {A = List Exchange} [] []) × (◌≡◌ {A = List ℕ} [] [])) ((rest : Plan) × BeginsWith plan [] rest × IsNothing rest [])
nothing_yet true plan = (refl, refl)
nothing_yet false plan = (plan, refl, refl)

-- the rest of a line and its line feed, and what is behind them
line_at : (given partial prefix behind : List ℕ) (lines : List (List ℕ)) → lines_of given ≡ lines ++ partial ∷ [] → IsLine prefix
    → lines_of (given ++ ((prefix ++ 10 ∷ []) ++ behind)) ≡ lines ++ (partial ++ prefix) ∷ lines_of behind
line_at given partial prefix behind lines is whole =
    ap (λ xs. lines_of (given ++ xs)) (append_assoc prefix (10 ∷ []) behind) ∙ after_line given partial prefix behind lines is whole

module _ (has_reads : Bool) {S : Type 0} (Step : S → Exchange → S → Type 0) where
  -- The run stops at a line of which nothing was asked or said: it is too long, or memory ran out for it.
  stops_at : (start old : S) (given bytes line new_line prefix : List ℕ) (others : List (List ℕ)) (jobs : Jobs) (held out : List ℕ) (stop : RunEnd) (st : ConversationAt has_reads Step start given line jobs out old)
      → lines_of (given ++ bytes) ≡ st.0 ++ (line ++ prefix) ∷ others → Extends line prefix (Err stop) new_line
      → (more : List ℕ) × (pairs : List Exchange) × (held ≡ held ++ more) × Runs Step start pairs old × OutputAt has_reads stop (given ++ bytes) pairs (out ++ more)
  stops_at start old given bytes line new_line prefix others jobs held out end.LineTooLong st split long =
      ([], st.1, sym (append-nil held), st.5, (st.0, others, line ++ prefix, jobs, split, long, rw (append-nil out) st.4))
  stops_at start old given bytes line new_line prefix others jobs held out end.Memory st split fits =
      let part = nothing_yet (is_blank (line ++ prefix)) (plan_of jobs (request_of has_reads (line ++ prefix))) in
      ([], st.1, sym (append-nil held), st.5, (st.0, others, line ++ prefix, st.1, [], out, [], jobs, split, fits, sym (append-nil st.1), refl, st.4, part))
  stops_at start old given bytes line new_line prefix others jobs held out end.End st split bad = absurd bad
  stops_at start old given bytes line new_line prefix others jobs held out end.ReadFailed st split bad = absurd bad
  stops_at start old given bytes line new_line prefix others jobs held out end.WriteFailed st split bad = absurd bad
  stops_at start old given bytes line new_line prefix others jobs held out end.TurnsOver st split bad = absurd bad

  pub line_stops : (old : S) (line new_line prefix behind : List ℕ) (jobs : Jobs) (held : List ℕ) (stop : RunEnd) → IsLine prefix → Extends line prefix (Err stop) new_line
      → PieceTaken has_reads Step old line jobs held (prefix ++ 10 ∷ []) behind (Err stop) old new_line jobs held
  line_stops old line new_line prefix behind jobs held stop whole bad = λ start given out st.
      stops_at start old given ((prefix ++ 10 ∷ []) ++ behind) line new_line prefix (lines_of behind) jobs held out stop st (line_at given line prefix behind st.0 st.2 whole) bad

  part_stops : (old : S) (line new_line part : List ℕ) (jobs : Jobs) (held : List ℕ) (stop : RunEnd) → IsLine part → Extends line part (Err stop) new_line
      → PieceTaken has_reads Step old line jobs held part [] (Err stop) old new_line jobs held
  part_stops old line new_line part jobs held stop whole bad = λ start given out st.
      let split = ap (λ xs. lines_of (given ++ xs)) (append-nil part) ∙ after_part given line part st.0 st.2 whole in
      stops_at start old given (part ++ []) line new_line part [] jobs held out stop st split bad

  -- the line was answered
  pub line_ends : (old new : S) (line prefix behind : List ℕ) (old_jobs jobs : Jobs) (old_held held : List ℕ) → IsLine prefix → Fits (line ++ prefix)
      → LineSaid has_reads Step (line ++ prefix) old_jobs old old_held (Ok tt) jobs new held → PieceTaken has_reads Step old line old_jobs old_held (prefix ++ 10 ∷ []) behind (Ok tt) new [] jobs held
  line_ends old new line prefix behind old_jobs jobs old_held held whole fits said = λ start given out st.
      let split = after_line given line prefix [] st.0 st.2 whole in (
        said.1,
        said.4,
        (
          st.0 ++ (line ++ prefix) ∷ [],
          st.1 ++ said.0,
          split ∙ sym (append_assoc st.0 ((line ++ prefix) ∷ []) ([] ∷ [])),
          none_fits,
          AnswersLines-snoc has_reads st.0 (line ++ prefix) [] old_jobs jobs st.1 said.0 out said.1 st.4 fits said.2,
          Runs-append Step start old new st.1 said.0 st.5 said.3,
        ),
      )

  -- the reply was not written whole
  pub line_cut : (old new : S) (line new_line prefix behind : List ℕ) (old_jobs jobs : Jobs) (old_held held : List ℕ) (stop : RunEnd) → IsLine prefix → Fits (line ++ prefix)
      → LineSaid has_reads Step (line ++ prefix) old_jobs old old_held (Err stop) jobs new held → PieceTaken has_reads Step old line old_jobs old_held (prefix ++ 10 ∷ []) behind (Err stop) new new_line jobs held
  line_cut old new line new_line prefix behind old_jobs jobs old_held held end.WriteFailed whole fits said = λ start given out st. (
    said.1,
    st.1 ++ said.0,
    said.6,
    Runs-append Step start old new st.1 said.0 st.5 said.5,
    (st.0, lines_of behind, line ++ prefix, st.1, said.0, out, said.1, old_jobs, line_at given line prefix behind st.0 st.2 whole, fits, refl, refl, st.4, rw said.3 (said.2, said.4, said.7)),
  )
  line_cut old new line new_line prefix behind old_jobs jobs old_held held end.Memory whole fits said = λ start given out st. (
    said.1,
    st.1 ++ said.0,
    said.6,
    Runs-append Step start old new st.1 said.0 st.5 said.5,
    (st.0, lines_of behind, line ++ prefix, st.1, said.0, out, said.1, old_jobs, line_at given line prefix behind st.0 st.2 whole, fits, refl, refl, st.4, rw said.3 (said.2, said.4, said.7)),
  )
  line_cut old new line new_line prefix behind old_jobs jobs old_held held end.End whole fits said = absurd said.7
  line_cut old new line new_line prefix behind old_jobs jobs old_held held end.ReadFailed whole fits said = absurd said.7
  line_cut old new line new_line prefix behind old_jobs jobs old_held held end.LineTooLong whole fits said = absurd said.7
  line_cut old new line new_line prefix behind old_jobs jobs old_held held end.TurnsOver whole fits said = absurd said.7

  -- bytes with no line feed
  pub part_comes : (old : S) (line part : List ℕ) (jobs : Jobs) (held : List ℕ) → IsLine part → Fits (line ++ part) → PieceTaken has_reads Step old line jobs held part [] (Ok tt) old (line ++ part) jobs held
  part_comes old line part jobs held whole fits = λ start given out st.
      ([], sym (append-nil held), (st.0, st.1, after_part given line part st.0 st.2 whole, fits, rw (append-nil out) st.4, st.5))

  -- one piece, and then another
  pub pieces_come : (old mid new : S) (old_line mid_line line : List ℕ) (old_jobs mid_jobs jobs : Jobs) (old_held mid_held held : List ℕ) (first second behind : List ℕ) (result : Result _ RunEnd)
      → PieceTaken has_reads Step old old_line old_jobs old_held first [] (Ok tt) mid mid_line mid_jobs mid_held → PieceTaken has_reads Step mid mid_line mid_jobs mid_held second behind result new line jobs held
      → PieceTaken has_reads Step old old_line old_jobs old_held (first ++ second) behind result new line jobs held
  pieces_come old mid new old_line mid_line line old_jobs mid_jobs jobs old_held mid_held held first second behind (Ok u) a b = λ start given out st.
      let x = a start given out st in
      let y = b start (given ++ first) (out ++ x.0) x.2 in (
        x.0 ++ y.0,
        y.1 ∙ ap (λ xs. xs ++ y.0) x.1 ∙ append_assoc old_held x.0 y.0,
        (y.2.0, y.2.1, rw (← append_assoc given first second) y.2.2, y.2.3, rw (← append_assoc out x.0 y.0) y.2.4, y.2.5),
      )
  pieces_come old mid new old_line mid_line line old_jobs mid_jobs jobs old_held mid_held held first second behind (Err stop) a b = λ start given out st.
      let x = a start given out st in
      let y = b start (given ++ first) (out ++ x.0) x.2 in
      let bytes : (given ++ first) ++ (second ++ behind) ≡ given ++ ((first ++ second) ++ behind) = append_assoc given first (second ++ behind) ∙ ap (λ xs. given ++ xs) (sym (append_assoc first second behind)) in
      (x.0 ++ y.0, y.1, y.2 ∙ ap (λ xs. xs ++ y.0) x.1 ∙ append_assoc old_held x.0 y.0, y.3, rw (← bytes, ← append_assoc out x.0 y.0) y.4)

  -- the last part of a piece, which has no line feed
  pub part_extends : (old : S) (line new_line part : List ℕ) (jobs : Jobs) (held : List ℕ) (result : Result _ RunEnd) → IsLine part → Extends line part result new_line
      → PieceTaken has_reads Step old line jobs held part [] result old new_line jobs held
  part_extends old line new_line part jobs held (Ok u) whole is =
      let fits : Fits (line ++ part) = rw is.0 at is.1 in
      rw is.0 (part_comes old line part jobs held whole fits)
  part_extends old line new_line part jobs held (Err stop) whole is = part_stops old line new_line part jobs held stop whole is

  -- what stops in a piece stops in it and what was behind it
  pub stops_sooner : (old new : S) (old_line line : List ℕ) (old_jobs jobs : Jobs) (old_held held : List ℕ) (first behind : List ℕ) (stop : RunEnd)
      → PieceTaken has_reads Step old old_line old_jobs old_held first behind (Err stop) new line jobs held → PieceTaken has_reads Step old old_line old_jobs old_held (first ++ behind) [] (Err stop) new line jobs held
  stops_sooner old new old_line line old_jobs jobs old_held held first behind stop a = λ start given out st. rw (append-nil (first ++ behind)) (a start given out st)

  -- ---- a run, from its first byte

  starts : (old : S) → ConversationAt has_reads Step old [] [] [] [] old
  starts old = ([], [], refl, none_fits, (refl, refl, refl), refl)

  -- the run ends between two reads
  pub run_breaks : (old new : S) (line : List ℕ) (jobs : Jobs) (old_held held bytes : List ℕ) → PieceTaken has_reads Step old [] [] old_held bytes [] (Ok tt) new line jobs held
      → (pairs : List Exchange) × (out : List ℕ) × Runs Step old pairs new × (held ≡ old_held ++ out) × AnsweredEnded has_reads bytes pairs out
  run_breaks old new line jobs old_held held bytes a =
      let x = a old [] [] (starts old) in
      (x.2.1, x.0, x.2.5, x.1, (x.2.0, line, jobs, x.2.2, x.2.3, x.2.4))

  -- the run stops inside the bytes
  pub run_stops : (old new : S) (line : List ℕ) (jobs : Jobs) (old_held held bytes : List ℕ) (stop : RunEnd) → PieceTaken has_reads Step old [] [] old_held bytes [] (Err stop) new line jobs held
      → (pairs : List Exchange) × (out : List ℕ) × Runs Step old pairs new × (held ≡ old_held ++ out) × OutputAt has_reads stop bytes pairs out
  run_stops old new line jobs old_held held bytes stop a =
      let x = a old [] [] (starts old) in
      let P : List ℕ → Type 0 = λ xs. OutputAt has_reads stop xs x.1 x.0 in
      (x.1, x.0, x.3, x.2, subst P (append-nil bytes) x.4)

  -- nothing was read
  pub begins : (old : S) (held : List ℕ) → PieceTaken has_reads Step old [] [] held [] [] (Ok tt) old [] [] held
  begins old held = λ start given out st.
      ([], sym (append-nil held), (st.0, st.1, ap lines_of (append-nil given) ∙ st.2, st.3, rw (append-nil out) st.4, st.5))

  -- the read failed
  pub read_fails : (old : S) (line : List ℕ) (jobs : Jobs) (held : List ℕ) → PieceTaken has_reads Step old line jobs held [] [] (Err end.ReadFailed) old line jobs held
  read_fails old line jobs held = λ start given out st.
      ([], st.1, sym (append-nil held), st.5, (st.0, line, jobs, ap lines_of (append-nil given) ∙ st.2, st.3, rw (append-nil out) st.4))

  -- the last line was answered
  pub last_ends : (old new : S) (line new_line : List ℕ) (old_jobs jobs : Jobs) (old_held held : List ℕ) → LineSaid has_reads Step line old_jobs old old_held (Ok tt) jobs new held
      → PieceTaken has_reads Step old line old_jobs old_held [] [] (Err end.End) new new_line jobs held
  last_ends old new line new_line old_jobs jobs old_held held said = λ start given out st.
      let conversation = AnswersLines-snoc has_reads st.0 line [] old_jobs jobs st.1 said.0 out said.1 st.4 st.3 said.2 in
      let P : List (List ℕ) → Type 0 = λ ls. AnswersLines has_reads ls [] (st.1 ++ said.0) (out ++ said.1) jobs in
      let all : st.0 ++ line ∷ [] ≡ lines_of (given ++ []) = sym (ap lines_of (append-nil given) ∙ st.2) in
      (said.1, st.1 ++ said.0, said.4, Runs-append Step start old new st.1 said.0 st.5 said.3, (jobs, subst P all conversation))

  -- the last line was not answered whole
  pub last_cut : (old new : S) (line new_line : List ℕ) (old_jobs jobs : Jobs) (old_held held : List ℕ) (stop : RunEnd) → LineSaid has_reads Step line old_jobs old old_held (Err stop) jobs new held
      → PieceTaken has_reads Step old line old_jobs old_held [] [] (Err stop) new new_line jobs held
  last_cut old new line new_line old_jobs jobs old_held held end.WriteFailed said = λ start given out st. (
    said.1,
    st.1 ++ said.0,
    said.6,
    Runs-append Step start old new st.1 said.0 st.5 said.5,
    (st.0, [], line, st.1, said.0, out, said.1, old_jobs, ap lines_of (append-nil given) ∙ st.2, st.3, refl, refl, st.4, rw said.3 (said.2, said.4, said.7)),
  )
  last_cut old new line new_line old_jobs jobs old_held held end.Memory said = λ start given out st. (
    said.1,
    st.1 ++ said.0,
    said.6,
    Runs-append Step start old new st.1 said.0 st.5 said.5,
    (st.0, [], line, st.1, said.0, out, said.1, old_jobs, ap lines_of (append-nil given) ∙ st.2, st.3, refl, refl, st.4, rw said.3 (said.2, said.4, said.7)),
  )
  last_cut old new line new_line old_jobs jobs old_held held end.End said = absurd said.7
  last_cut old new line new_line old_jobs jobs old_held held end.ReadFailed said = absurd said.7
  last_cut old new line new_line old_jobs jobs old_held held end.LineTooLong said = absurd said.7
  last_cut old new line new_line old_jobs jobs old_held held end.TurnsOver said = absurd said.7

-- a line and its line feed, behind what was taken of the piece
pub taken_on : (piece : List ℕ) (at len : ℕ) → (take (len + 1) (take (length piece - at) (drop at piece)) ≡ take len (take (length piece - at) (drop at piece)) ++ 10 ∷ [])
    → take at piece ++ (take len (take (length piece - at) (drop at piece)) ++ 10 ∷ []) ≡ take (at + (len + 1)) piece
taken_on piece at len is =
    ap (λ xs. take at piece ++ xs) (sym is) ∙ rw (take_rest piece at) (sym (take-add at (len + 1) piece))

-- all of the piece
pub taken_all : (piece : List ℕ) (at : ℕ) → take at piece ++ take (length piece - at) (drop at piece) ≡ piece
taken_all piece at = rw (take_rest piece at) (take-append-drop at piece)
