use Rattle.std.proofs.Common.{◌≡◌, ℕ, List, ap, map, ◌∙◌, option_map, nat_eq}
use Rattle.std.specs.{Cmp.Lexicographic.{pointwise}, HashMap.{get}}
use Rattle.fb_tree.specs.Tree.{instance_tree}
use Rattle.fb_iface.proofs.ScopeLemmas.{kept_usable}
use Rattle.fb_iface.specs.{ScopeTypes.{kept_of, kept_ports}, Scope.{mentioned_type}}
use Rattle.fb_iface.proofs.scope.Scope.new.Goals as goal

pub returns : goal.returns
returns g c =
    let sources = g.V.View.sources c.args.view.now in
    let mentioned = λ (name : List ℕ). mentioned_type sources (map instance_tree c.args.network.now.instances.items) name in
    let types : (name : List ℕ) → get (pointwise nat_eq) c.in_ok-types.types name ≡ option_map kept_of (mentioned name) = λ name. c.in_ok-types.ensures name ∙ ap (λ l. option_map kept_of (mentioned_type sources (map instance_tree l) name)) c.as_slice.ensures.value in
    λ i. record {
      own = c.by_tables-own.ensures i;
      type_ports = λ role name. (ap (kept_ports role) (types name) ∙ kept_usable role (mentioned name)) i;
    }
