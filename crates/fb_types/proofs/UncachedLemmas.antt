-- What is left is looked up, and nothing else; likewise units with instances that count.
use Rattle.std.proofs.Common.{ℕ, ◌≡◌, cond, List, Option, None, sym, ap}
use Rattle.std.specs.FinMap.{get, get-retain_keys, slice_cmp-IsAntisymmetric, nat_cmp-IsAntisymmetric}
use Rattle.fb_iface.specs.Library.View.{Sources}
use Rattle.fb_types.specs.{Hints.{is_uncached, uncached_of}, Holders.{holders_of, is_holder}, Net.{PlainNet}}

pub get_uncached : (hints : List ℕ → Option PlainNet) (sources : Sources) (unit n : List ℕ) → get (uncached_of hints sources unit) n ≡ cond (is_uncached hints unit n) (get sources n) None
get_uncached hints sources unit n = get-retain_keys sources (is_uncached hints unit) n (λ x e. ap (is_uncached hints unit) (sym (slice_cmp-IsAntisymmetric nat_cmp-IsAntisymmetric n x e)))

pub get_holder : (sources : Sources) (n : List ℕ) → get (holders_of sources) n ≡ cond (is_holder sources n) (get sources n) None
get_holder sources n = get-retain_keys sources (is_holder sources) n (λ x e. ap (is_holder sources) (sym (slice_cmp-IsAntisymmetric nat_cmp-IsAntisymmetric n x e)))
