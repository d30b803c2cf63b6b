use Rattle.std.proofs.{Common.{◌≡◌, ◌∷◌, [], false, None, Ok, map, rules, ap, sym, ◌∙◌}, lemmas.Result.{err_from_is_err_and}}
use Rattle.fb_grammar.specs.{declared.kind.Kind.TheVariants.{Point}, Reading.{is_next}}
use Rattle.fb_tree.specs.Expression.{Expressions, ReferenceTree}
use Rattle.fb_structured_text.specs.{Expression.{PartTree, part_of, reference_in}, Part.{part_tree}}
use Rattle.fb_structured_text.proofs.Variables.{behind_first, flat_alone, flat_name_fails, flat_parts_fail, read_flat}
use Rattle.fb_structured_text.proofs.references.flat_reference.Goals as goal

pub returns-in_err-first : goal.returns-in_err-first
returns-in_err-first c =
    let p = err_from_is_err_and c.from_residual.result c.from_residual.ensures.1 in
    rw (p.1, p.2) (flat_name_fails c.args.tokens.now c.in_err-first.field-0.0 c.name.new.tokens c.in_err-first.ensures)

pub returns-then-not-is_next : goal.returns-then-not-is_next
returns-then-not-is_next c =
    let none : is_next (Point ∷ []) c.name.new.tokens ≡ false = search rules in
    flat_alone c.args.tokens.now c.in_ok-first.first c.name.new.tokens c.in_ok-first.ensures none

pub returns-in_err-others : goal.returns-in_err-others
returns-in_err-others c =
    let p = err_from_is_err_and c.from_residual-in_err-others.result c.from_residual-in_err-others.ensures.1 in
    rw (p.1, p.2)
    (flat_parts_fail c.args.tokens.now c.in_ok-first.first c.name.new.tokens c.in_err-others.field-0.0 c.flat_members.new.tokens c.in_ok-first.ensures c.in_err-others.ensures)

pub returns : goal.returns
returns c =
    let others = map part_tree c.in_ok-others.others.items in
    read_flat c.args.tokens.now c.in_ok-first.first c.name.new.tokens c.in_ok-first.ensures
    ∙ ap (behind_first (part_of c.in_ok-first.first None)) c.in_ok-others.ensures
    ∙ ap (λ (v : ReferenceTree × Expressions). Ok (v, c.flat_members.new.tokens)) (sym (c.in_ok-joined.ensures ∙ ap (λ (p : PartTree). reference_in (p, others)) c.alone.ensures))
