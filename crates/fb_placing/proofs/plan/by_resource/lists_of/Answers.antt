-- One command further.
use Rattle.std.proofs.{Common.{◌≡◌, ◌+◌, ◌++◌, ◌∷◌, [], Vec, Global, length, take, sym, ◌∙◌, ap, subst}, lemmas.List.{take_all, with_items_is}}
use Rattle.fb_placing.specs.{ByResource.{AreListed, IsFirst, indexes_at, indexes_more}, declared.plan.command_index.CommandIndex.{CommandIndex}}
use Rattle.fb_placing.proofs.{ListLemmas.{one_more}, ListedLemmas.{found_first, listed_more, listed_same}}
use Rattle.fb_placing.proofs.plan.by_resource.lists_of.Goals.{in-Some+in_ok-push_index, in_default}
use Rattle.fb_placing.proofs.plan.by_resource.lists_of.Goals as goal

pub loop-command-preserved : goal.loop-command-preserved
loop-command-preserved c =
    let names = c.args.names.now in
    let commands = c.args.commands.now in
    let x = c.command-item.result in
    let prefix = take c.loop-command.command-index commands in
    let next : prefix ++ x ∷ [] ≡ take (c.loop-command.command-index + 1) commands = sym (one_more commands c.loop-command.command-index x c.loop-command-test.true c.command-item.is) in
    elim c.match-place_near.branch [
      | in-Some+in_ok-push_index w ↦
          let place = w.in-Some.place in
          let after : c.match-place_near.lists.items ≡ w.push_index.new.lists = ap (λ l. l.items) w.lists-is ∙ with_items_is c.loop-command.lists w.push_index.new.lists (w.in_ok-push_index.ensures.count ∙ w.deref_mut.ensures.len) in
          let before : w.deref_mut.result.now ≡ c.loop-command.lists.items = w.deref_mut.ensures.value in
          record {
            listed = subst (AreListed names (indexes_at c.match-place_near.lists.items)) next
                (listed_more names prefix x (indexes_at c.loop-command.lists.items) (indexes_at c.match-place_near.lists.items) place c.loop-command.invariant.listed w.in-Some.ensures.found
                (λ k. ap (λ l. indexes_at l k) after ∙ w.in_ok-push_index.ensures.items k ∙ ap (λ l. indexes_more (indexes_at l) place x.index k) before));
            count = ap length after ∙ w.in_ok-push_index.ensures.count ∙ ap length before ∙ c.loop-command.invariant.count;
            first = subst (IsFirst names) (sym w.last-is) (found_first names place x.resource.now w.in-Some.ensures.found);
          }
      | in_default w ↦ record {
        listed = subst (λ (l : Vec (Vec CommandIndex Global) Global). AreListed names (indexes_at l.items) (take (c.loop-command.command-index + 1) commands)) (sym w.lists-is)
            (subst (AreListed names (indexes_at c.loop-command.lists.items)) next (listed_same names prefix x (indexes_at c.loop-command.lists.items) c.loop-command.invariant.listed w.in_default.ensures.none));
        count = ap (λ l. length l.items) w.lists-is ∙ c.loop-command.invariant.count;
        first = subst (IsFirst names) (sym w.last-is) c.loop-command.invariant.first;
      }
    ]

pub returns : goal.returns
returns c = subst (AreListed c.args.names.now (indexes_at c.loop-command.lists.items)) (take_all c.loop-command.command-index c.args.commands.now c.loop-command-test.false) c.loop-command.invariant.listed
