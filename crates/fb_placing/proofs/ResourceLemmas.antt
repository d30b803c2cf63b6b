-- What is told of resources.
use Rattle.std.proofs.Common.{◌≡◌, ◌↔◌, false, IsTrue, ap}
use Rattle.fb_placing.specs.PlainResource.{PlainResource}

pub other_resource : (a b : PlainResource) → (a.name ≡ b.name → ⊥) → IsTrue false ↔ (a ≡ b)
other_resource a b differ = ((λ t. absurd (cc)), (λ e. absurd (differ (ap (λ (r : PlainResource). r.name) e))))
