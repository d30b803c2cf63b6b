use Rattle.std.proofs.{Common.{◌≡◌, ℕ, ◌+◌, ◌<◌, List, [], ◌∷◌, ◌++◌, get_or, length, take, Option, sym, ap, ◌∙◌, append-nil, arith}, lemmas.List.{take_more}}
use Rattle.std.proofs.lemmas.List.Elements.{filter_map-append}
use Rattle.std.specs.List.{cons_option, filter_map}
use Rattle.fb_tree.specs.{Tree.{instance_tree}, declared.network.Instance.{Instance}}
use Rattle.fb_types.specs.Networks.{plain_instance}
use Rattle.fb_types.proofs.networks.instances_of.Goals as goal
use Rattle.fb_types.proofs.networks.instances_of.Goals.{in-Some+in_ok-push, in_default}

-- what one more item of a list gives
next : {X Y : Type 0} (h : X → Option Y) (xs : List X) (n : ℕ) (x : X) (o : Option Y) → n < length xs → x ≡ get_or xs n x → o ≡ h x → filter_map h (take (n + 1) xs) ≡ filter_map h (take n xs) ++ cons_option o []
next h xs n x o within here is =
    ap (filter_map h) (take_more xs n x within ∙ ap (λ y. take n xs ++ y ∷ []) (sym here))
    ∙ filter_map-append h (take n xs) (x ∷ [])
    ∙ ap (λ p. filter_map h (take n xs) ++ cons_option p []) (sym is)

pub loop-instance-preserved : goal.loop-instance-preserved
loop-instance-preserved c =
    let of_tree = λ (i : Instance). plain_instance (instance_tree i) in
    let xs = c.args.instances.now in
    let i = c.loop-instance.instance-index in
    let x = c.instance-item.result in
    let within : i < length xs = omega arith in
    elim c.match-instance_of.branch [
      | in-Some+in_ok-push w ↦
          let more = next of_tree xs i x c.instance_of.result within c.instance-item.is c.instance_of.ensures in
          (λ k. (w.found-is k).items)
          ∙ w.in_ok-push.ensures.items
          ∙ (λ k. c.loop-instance.invariant k ++ cons_option (sym w.in-Some.is k) [])
          ∙ sym more
      | in_default w ↦
          let more = next of_tree xs i x c.instance_of.result within c.instance-item.is c.instance_of.ensures in
          (λ k. (w.found-is k).items)
          ∙ c.loop-instance.invariant
          ∙ sym (append-nil (filter_map of_tree (take i xs)))
          ∙ (λ k. filter_map of_tree (take i xs) ++ cons_option (sym w.in_default.is k) [])
          ∙ sym more
    ]
