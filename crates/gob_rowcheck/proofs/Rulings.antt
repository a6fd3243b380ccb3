-- Rulings of policies that are tried one after the other.
use Rattle.std.proofs.Common.{◌≡◌, ℕ, ◌+◌, ◌<◌, ◌≤◌, false, List, length, get_or, drop, sym, ap, ◌∙◌, zero-add}
use Rattle.std.proofs.lemmas.List.{at_drop_more, at_drop_all}
use Rattle.gob_plan.specs.declared.rows.Column.{Column}
use Rattle.gob_plan.specs.declared.rows.Row.{Row}
use Rattle.gob_plan.specs.declared.plan.Mode.{Mode}
use Rattle.gob_plan.specs.declared.plan.PolicySpec.{PolicySpec}
use Rattle.gob_plan.specs.Tests.{test_holds}
use Rattle.gob_meaning.specs.Policies.{Ruling, pass, ruling_by_mode, ruling_from}
use Rattle.gob_rowcheck.specs.Verdicts.{counted_ruling}

-- the next policy, by its place
pub ruled : (ps : List PolicySpec) (columns : List Column) (row : Row) (n i : ℕ) (p : PolicySpec) → i < length ps
    → p ≡ get_or ps i p → counted_ruling n (ruling_from i (drop i ps) columns row)
    ≡ counted_ruling n (ruling_by_mode (test_holds p.test columns row) p.mode i
    (ruling_from (i + 1) (drop (i + 1) ps) columns row))
ruled ps columns row n i p below is =
    at_drop_more (λ qs. counted_ruling n (ruling_from i qs columns row)) ps i p below
    ∙ ap (λ (q : PolicySpec). counted_ruling n (ruling_by_mode (test_holds q.test columns row) q.mode i
    (ruling_from (i + 1) (drop (i + 1) ps) columns row))) (sym is)

-- a next policy that fails
pub fails_at : (ps : List PolicySpec) (columns : List Column) (row : Row) (n i : ℕ) (p : PolicySpec) (m : Mode)
    (whole : Ruling × ℕ) → i < length ps → p ≡ get_or ps i p → test_holds p.test columns row ≡ false → p.mode ≡ m
    → counted_ruling n (ruling_from i (drop i ps) columns row) ≡ whole
    → counted_ruling n (ruling_by_mode false m i (ruling_from (i + 1) (drop (i + 1) ps) columns row)) ≡ whole
fails_at ps columns row n i p m whole below is fails by left =
    let later = ruling_from (i + 1) (drop (i + 1) ps) columns row in
    sym (λ j. counted_ruling n (ruling_by_mode (fails j) (by j) i later))
    ∙ sym (ruled ps columns row n i p below is) ∙ left

-- none is left
pub all_ruled : (ps : List PolicySpec) (columns : List Column) (row : Row) (n i : ℕ) → length ps ≤ i
    → counted_ruling n (ruling_from i (drop i ps) columns row) ≡ (pass, n)
all_ruled ps columns row n i past =
    at_drop_all (λ qs. counted_ruling n (ruling_from i qs columns row)) ps i past ∙ ap (λ m. (pass, m)) (zero-add n)
