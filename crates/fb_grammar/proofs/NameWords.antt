-- Names are words.
use Rattle.std.proofs.Common.{◌≡◌, ◌↔◌, ◌≤◌, ℕ, Bool, true, false, not, nat_eq, nat_lt, List, [], ◌∷◌, length, Option, Some, None, refl, sym, ap, ◌∙◌, true≢false, if◌then◌else◌, ◌==◌, codes}
use Rattle.std.proofs.{lemmas.Bool.{and_parts, cond-true, cond-false, ltb-false, le-ltb}, lemmas.Option.{none-some, same_Some}}
use Rattle.std.specs.{List.{list_all, list_any}, Map.{lookup}, Cmp.Lexicographic.{pointwise}}
use Rattle.fb_tree.proofs.Text.Longest.{by_test}
use Rattle.fb_tree.specs.{Text.Forms.{same_word}, Text.Elementary.{type_class_of}, Text.declared.elementary.TypeClass.{TypeClass}}
use Rattle.fb_tree.specs.Text.declared.token.TokenKind.{TokenKind}
use Rattle.fb_tree.specs.Text.declared.elementary.TypeClass.TheVariants as class
use Rattle.fb_tree.specs.Text.declared.token.TokenKind.TheVariants as found
use Rattle.fb_grammar.specs.{declared.kind.Kind.{Kind}, declared.kind.Kind.TheVariants.{NameIn, NameOn, NameSt, Name, Zero, One, Number, RealNumber, Other}}
use Rattle.fb_grammar.specs.{Kind.{is_among, name_kinds}, ReservedWords.{keyword, reserved_words, symbol, symbols}}
use Rattle.fb_grammar.specs.Lexemes.{kind_of, kind_or, literal_kind, name_kind, number_kind, symbol_kind, type_name, typed_kind, word_kind}

abbrev is_name : Kind → Bool
is_name kind = is_among name_kinds kind

-- no kind of the list is a name
abbrev are_no_names : List (List ℕ × Kind) → Bool
are_no_names es = list_all (λ e. not (is_name e.1)) es

not-true : (b : Bool) → not b ≡ true → b ≡ false
not-true true e = sym e
not-true false e = refl

found-no_name : (test : List ℕ → Bool) (es : List (List ℕ × Kind)) (kind : Kind) → are_no_names es ≡ true → lookup test es ≡ Some kind → is_name kind ≡ false
found-no_name test [] kind all h = absurd (none-some kind h)
found-no_name test (e ∷ es) kind all h =
    let parts = and_parts (not (is_name e.1)) (are_no_names es) all in
    by_test (test e.0)
    (λ t. ap is_name (sym (same_Some e.1 kind (sym (cond-true (test e.0) (Some e.1) (lookup test es) t) ∙ h))) ∙ not-true (is_name e.1) parts.0)
    (λ f. found-no_name test es kind parts.1 (sym (cond-false (test e.0) (Some e.1) (lookup test es) f) ∙ h))

kind_or-no_name : (found : Option Kind) (default : Kind) → ((kind : Kind) → found ≡ Some kind → is_name kind ≡ false) → is_name default ≡ false → is_name (kind_or found default) ≡ false
kind_or-no_name None default h o = o
kind_or-no_name (Some kind) default h o = h kind refl

either_kind : (b v : Bool) (x y : Kind) → is_name x ≡ v → is_name y ≡ v → is_name (if b then x else y) ≡ v
either_kind true v x y p q = p
either_kind false v x y p q = q

literal-no_name : (c : TypeClass) → is_name (literal_kind c) ≡ false
literal-no_name class.Truth = refl
literal-no_name class.Integer = refl
literal-no_name class.Bits = refl
literal-no_name class.Free = refl
literal-no_name class.Other = refl

number-no_name : (bytes : List ℕ) → is_name (number_kind bytes) ≡ false
unfolding number_kind
number-no_name bytes =
    either_kind (pointwise nat_eq bytes (codes "0")) false Zero _ refl
    (either_kind (pointwise nat_eq bytes (codes "1")) false One _ refl (either_kind (list_any (λ b. b == 46) bytes) false RealNumber Number refl refl))

typed-no_name : (bytes : List ℕ) → is_name (typed_kind bytes) ≡ false
unfolding typed_kind
typed-no_name bytes = literal-no_name (type_class_of (type_name bytes))

symbol-no_name : (bytes : List ℕ) → is_name (symbol_kind bytes) ≡ false
unfolding symbol_kind symbol
symbol-no_name bytes = kind_or-no_name (symbol bytes) Other (λ kind h. found-no_name (pointwise nat_eq bytes) symbols kind refl h) refl

short-name : (word : List ℕ) → length word ≤ 64 → is_name (name_kind word) ≡ true
unfolding name_kind
short-name word short =
    let e = cond-false (nat_lt 64 (length word)) Other _ (le-ltb 64 (length word) short) in
    ap is_name e
    ∙ either_kind (same_word word (codes "IN")) true NameIn _ refl
    (either_kind (same_word word (codes "ON")) true NameOn _ refl (either_kind (same_word word (codes "ST")) true NameSt Name refl refl))

long-name : (word : List ℕ) → nat_lt 64 (length word) ≡ true → is_name (name_kind word) ≡ false
unfolding name_kind
long-name word long = ap is_name (cond-true (nat_lt 64 (length word)) Other _ long)

keyword-no_name : (word : List ℕ) (kind : Kind) → keyword word ≡ Some kind → is_name kind ≡ false
unfolding keyword
keyword-no_name word kind h = found-no_name (same_word word) reserved_words kind refl h

impossible : {P : Type 0} (b : Bool) → b ≡ false → b ≡ true → P
impossible b f t = absurd (true≢false (sym t ∙ f))

word-is : (word : List ℕ) (k : Option Kind) → keyword word ≡ k → is_name (kind_or k (name_kind word)) ≡ true → (length word ≤ 64) × (keyword word ≡ None)
word-is word (Some kind) e h = impossible (is_name kind) (keyword-no_name word kind e) h
word-is word None e h =
    by_test (nat_lt 64 (length word))
    (λ long. impossible (is_name (name_kind word)) (long-name word long) h)
    (λ short. (ltb-false 64 (length word) short, e))

name-is : (token : TokenKind) (bytes : List ℕ) → is_name (kind_of token bytes) ≡ true → (token ≡ found.Word) × (length bytes ≤ 64) × (keyword bytes ≡ None)
unfolding kind_of word_kind
name-is found.Word bytes h = let w = word-is bytes (keyword bytes) refl h in (refl, w.0, w.1)
name-is found.Number bytes h = impossible _ (number-no_name bytes) h
name-is found.Typed bytes h = impossible _ (typed-no_name bytes) h
name-is found.String bytes h = absurd (true≢false (sym h))
name-is found.Symbol bytes h = impossible _ (symbol-no_name bytes) h
name-is found.Other bytes h = absurd (true≢false (sym h))

is-name : (token : TokenKind) (bytes : List ℕ) → (token ≡ found.Word) × (length bytes ≤ 64) × (keyword bytes ≡ None) → is_name (kind_of token bytes) ≡ true
unfolding kind_of word_kind
is-name token bytes h =
    ap (λ t. is_name (kind_of t bytes)) h.0
    ∙ ap (λ k. is_name (kind_or k (name_kind bytes))) h.2
    ∙ short-name bytes h.1

pub names : (token : TokenKind) (bytes : List ℕ) → (is_among name_kinds (kind_of token bytes) ≡ true) ↔ ((token ≡ found.Word) × (length bytes ≤ 64) × (keyword bytes ≡ None))
names token bytes = (name-is token bytes, is-name token bytes)
