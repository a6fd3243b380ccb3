-- One fresh unit fits a state without partitions.
use Rattle.std.proofs.Common.{◌≡◌, ◌<◌, Bool, true, false, cond, ◌&&◌, List, [], ◌∷◌, sym, ap, subst, ◌∙◌, ⊎_elim}
use Rattle.std.proofs.Common.{arith}
use Rattle.std.specs.List.{IsDistinct}
use Rattle.std.specs.Str.{bytes_eq}
use Rattle.std.proofs.lemmas.Bool.{true≢false}
use Rattle.gob_plan.specs.declared.units.Unit.{Unit as WorkUnit}
use Rattle.gob_ledger.specs.Units.{AreAdjacentFrom, UnitsFit}
use Rattle.gob_ledger.proofs.Members.{in_cases, none_in}

pub one_fits : (u : WorkUnit) → u.fresh ≡ true → u.lo ≡ 0 → u.lo < u.hi → UnitsFit [] (u ∷ [])
unfolding IsDistinct
one_fits u fresh start some = record {
  once = (tt, tt);
  owed = λ k h old. ⊎_elim
      (λ e. absurd (true≢false (sym fresh ∙ ap (λ (v : WorkUnit). v.fresh) e ∙ old)))
      (λ n. none_in k n)
      (in_cases u [] k h);
  fresh = λ part. elim (u.fresh && bytes_eq u.part part) as (λ b. AreAdjacentFrom 0 (cond b (u ∷ []) [])) [
    | true ↦ (start, some, tt)
    | false ↦ tt
  ];
}
