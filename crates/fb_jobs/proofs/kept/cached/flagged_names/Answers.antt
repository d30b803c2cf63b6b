-- The name of a read that is flagged is put among them.
use Rattle.std.proofs.{Common.{◌≡◌, ℕ, List, true, sym, ap, subst, ◌∙◌, arith, rules}, lemmas.List.{get_or-map, length-map}}
use Rattle.std.specs.BTreeSet as set
use Rattle.fb_text.specs.Order.{name_cmp}
use Rattle.fb_jobs.specs.{Cached.{is_flagged}, Reads.{Seen}, Values.{all_seen, seen_of}}
use Rattle.fb_jobs.proofs.{CachedLemmas.{flagged_there, puts_name, puts_none}, kept.cached.flagged_names.Goals.{then-flag_at+in_ok-insert, else-flag_at}}
use Rattle.fb_jobs.proofs.kept.cached.flagged_names.Goals as goal

pub loop-place-init : goal.loop-place-init
loop-place-init c = puts_none (is_flagged (all_seen c.args.reads.now) c.args.flags.now) c.new-names.result c.new-names.ensures.empty

pub loop-place-preserved : goal.loop-place-preserved
loop-place-preserved c =
    let reads = c.args.reads.now in
    let flags = c.args.flags.now in
    let passes = is_flagged (all_seen reads) flags in
    let k = c.loop-place.place in
    elim c.if-flag_at.branch [
      | then-flag_at+in_ok-insert w ↦
          let it = w.index-reads-place.result in
          let d : Seen = seen_of it in
          let put : set.Updates name_cmp c.loop-place.names w.insert.new.self it.name true = search rules in
          let is = get_or-map seen_of reads k it d c.loop-place-test.true ∙ ap seen_of (sym w.index-reads-place.is) in
          let flagged = subst (λ (s : Seen). passes s.name ≡ true) is (flagged_there (all_seen reads) flags k d (omega (arith, length-map reads seen_of)) (sym c.flag_at.ensures ∙ w.if-flag_at.true)) in
          subst (λ (names : set.BTreeSet (List ℕ)). (name : List ℕ) → set.contains name_cmp names name ≡ true → passes name ≡ true) (sym w.names-is)
          (puts_name passes it.name c.loop-place.names w.insert.new.self put.0 flagged c.loop-place.invariant)
      | else-flag_at w ↦
          subst (λ (names : set.BTreeSet (List ℕ)). (name : List ℕ) → set.contains name_cmp names name ≡ true → passes name ≡ true) (sym w.names-is) c.loop-place.invariant
    ]
