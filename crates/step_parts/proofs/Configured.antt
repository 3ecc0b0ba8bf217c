-- The cells, variables and pools of a configuration are some that tables are made of.
use Rattle.std.specs.Prelude.{◌≡◌, nat_eq, nat_le, Bool, true, false, not, ◌&&◌, ◌||◌, List, [], ◌∷◌, length}
use Rattle.std.specs.List.{list_all, list_any, IsDistinct, AllByRecursion}
use Rattle.std.proofs.Common.{refl, sym, subst, arith}
use Rattle.std.proofs.lemmas.Bool.Decides.{nat_tests}
use Rattle.mms_types.specs.declared.cells.CellRow.{CellRow}
use Rattle.mms_types.specs.declared.cells.NamedCell.{NamedCell}
use Rattle.mms_types.specs.declared.cells.PoolRow.{PoolRow}
use Rattle.cell_config.specs.Cells.{are_distinct, is_pool, same_name}
use Rattle.cell_config.specs.Said.{IsConfig}
use Rattle.cell_config.specs.declared.config.Config.{Config}
use Rattle.mms_time.specs.Opening.{ArePools, HasTokens}
use Rattle.variables.specs.Start.{AreApart}

module _ {K : Type 0} (equal : K → K → Bool) where
  none_of : (key : K) (keys : List K) → list_any (equal key) keys ≡ false → AllByRecursion (λ other. equal key other ≡ false) keys
  none_of key [] none = tt
  none_of key (other ∷ keys) none = by_test (equal key other) refl (none_of key keys) none
    where
      by_test : (b : Bool) → equal key other ≡ b → (list_any (equal key) keys ≡ false → AllByRecursion (λ x. equal key x ≡ false) keys)
          → (b || list_any (equal key) keys) ≡ false → AllByRecursion (λ x. equal key x ≡ false) (other ∷ keys)
      by_test true e rest h = absurd (cc h)
      by_test false e rest h = (e, rest h)

  all_apart : (keys : List K) → are_distinct equal keys ≡ true → IsDistinct equal keys
  unfolding IsDistinct
  all_apart [] told = tt
  all_apart (key ∷ keys) told = by_test (list_any (equal key) keys) refl (all_apart keys) told
    where
      by_test : (b : Bool) → list_any (equal key) keys ≡ b → (are_distinct equal keys ≡ true → IsDistinct equal keys)
          → (not b && are_distinct equal keys) ≡ true → IsDistinct equal (key ∷ keys)
      by_test true e rest h = absurd (cc h)
      by_test false e rest h = (none_of key keys e, rest h)

pub apart : (config : Config) → IsConfig config → AreApart config.cells config.variables
apart config is = record {
  numbers = all_apart nat_eq _ is.cells.distinct;
  names = all_apart same_name _ is.variables.distinct;
  few = is.variables.few;
}

pub apart_as : (config : Config) (cells : List CellRow) (variables : List NamedCell) → IsConfig config → cells ≡ config.cells → variables ≡ config.variables → AreApart cells variables
apart_as config cells variables is same named =
    subst (λ (l : List CellRow). AreApart l variables) (sym same) (subst (λ (l : List NamedCell). AreApart config.cells l) (sym named) (apart config is))

-- ---- pools

both : (a b : Bool) → (a && b) ≡ true → (a ≡ true) × (b ≡ true)
both true b h = (refl, h)
both false b h = absurd (cc h)

has_tokens : (pool : PoolRow) → is_pool pool.tokens ≡ true → HasTokens pool
has_tokens pool told =
    let second = both (nat_le 1 (length pool.tokens) && nat_le (length pool.tokens) 256) (are_distinct same_name pool.tokens) told in
    let first = both (nat_le 1 (length pool.tokens)) (nat_le (length pool.tokens) 256) second.0 in
    let some = first.0 in
    let few = first.1 in
    record { distinct = all_apart same_name pool.tokens second.1; some = grind (arith, nat_tests, some); few = grind (arith, nat_tests, few) }

each_pool : (pools : List PoolRow) → list_all (λ pool. is_pool pool.tokens) pools ≡ true → AllByRecursion HasTokens pools
each_pool [] told = tt
each_pool (pool ∷ pools) told =
    let parts = both (is_pool pool.tokens) (list_all (λ p. is_pool p.tokens) pools) told in
    (has_tokens pool parts.0, each_pool pools parts.1)

pub pools_apart : (config : Config) → IsConfig config → ArePools config.pools
pools_apart config is = record { names = all_apart same_name _ is.pools.distinct; each = each_pool config.pools is.pools.tokens }

pub pools_apart_as : (config : Config) (pools : List PoolRow) → IsConfig config → pools ≡ config.pools → ArePools pools
pools_apart_as config pools is same = subst ArePools (sym same) (pools_apart config is)
