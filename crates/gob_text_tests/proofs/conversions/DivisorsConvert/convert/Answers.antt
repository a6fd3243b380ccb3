use Rattle.std.proofs.Common.{◌≡◌, ℕ, suc, ◌+◌, ◌-◌, ◌%◌, ◌<◌, nat_eq, cond, ◌∷◌, ap, arith}
use Rattle.std.proofs.lemmas.Grind.{common_steps}
use Rattle.gob_text_tests.specs.Samples.{divisors_from}
use Rattle.gob_text_tests.proofs.conversions.DivisorsConvert.convert.Goals as goal
use Rattle.gob_text_tests.proofs.conversions.DivisorsConvert.convert.Goals.{then-rec-k-eq0+in_ok-push, else-rec-k-eq0}

divisors_next : (n k : ℕ) → k < n → divisors_from n k (n - k) ≡
    cond (nat_eq (n % k) 0) (k ∷ divisors_from n (k + 1) (n - (k + 1))) (divisors_from n (k + 1) (n - (k + 1)))
divisors_next n k below =
    let one_less : n - k ≡ suc (n - (k + 1)) = omega arith in
    ap (divisors_from n k) one_less

pub loop-k-preserved : goal.loop-k-preserved
loop-k-preserved c =
    let next = divisors_next c.args.rec c.loop-k.k c.loop-k-test.true in
    elim c.if-rec-k-eq0.branch [
      | then-rec-k-eq0+in_ok-push w ↦ grind (arith, common_steps, next)
      | else-rec-k-eq0 w ↦ grind (arith, common_steps, next)
    ]
