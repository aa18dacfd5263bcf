-- `round_fallback::cylinder::sort` is `sorted_of`: by the key, which is the number and one over it, no other list of
-- the same numbers is in order.
use Rattle.std.proofs.Common.{rules, arith}
use lib.Ieee.{nan, binary64, div}
use Rattle.std.proofs.lemmas.Fn.{always_returns_same}
use Rattle.leaves.specs.Constants.{one}
use Rattle.round_fallback.proofs.Sorting.{sorted_alone}
use Rattle.round_fallback.proofs.cylinder.sort.Goals as goal

pub returns : goal.returns
returns c =
    let s = c.sort_unstable_by_key in
    sorted_alone c.args.list.now s.new.self c.requires s.ensures.permutation
    (λ k lt. s.ensures.sorted (λ x. (record { 0 = x }, record { 0 = div binary64 one x })) (always_returns_same _ _ _ (λ a r f' k. (search rules, search rules))) k nan (omega arith) lt)
