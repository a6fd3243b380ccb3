-- How many units of a run are new.
use Rattle.std.proofs.Common.{◌≡◌, true, false, List, [], ◌∷◌, length, refl, sym, ap, ◌∙◌, arith}
use Rattle.std.specs.List.{Contains}
use Rattle.std.proofs.lemmas.List.Sums.{sum_by-append, sum_by-cons}
use Rattle.gob_bytes.specs.Tables.{Table}
use Rattle.gob_device.specs.Supply.{Held}
use Rattle.gob_plan.specs.declared.plan.Limits.{Limits}
use Rattle.gob_plan.specs.declared.units.Unit.{Unit as WorkUnit}
use Rattle.gob_ledger.specs.Marks.{Marks}
use Rattle.gob_ledger.specs.UnitLaws.{new_count}
use Rattle.gob_ledger.specs.Units.{new_units, owed_units, units_of_parts}
use Rattle.gob_ledger.proofs.Counting.{one_if}
use Rattle.gob_ledger.proofs.Cutting.{new_member, old_member}
use Rattle.gob_ledger.proofs.Members.{first_in, later_in}

count_none : (us : List WorkUnit) → ((u : WorkUnit) → Contains us u → u.fresh ≡ false) → new_count us ≡ 0
count_none [] none = refl
count_none (u ∷ us) none =
    let here : one_if u.fresh ≡ 0 = ap one_if (none u (first_in u us u refl)) in
    let later = count_none us (λ v h. none v (later_in u us v h)) in
    sum_by-cons (λ (v : WorkUnit). one_if v.fresh) u us ∙ omega arith

count_all : (us : List WorkUnit) → ((u : WorkUnit) → Contains us u → u.fresh ≡ true) → new_count us ≡ length us
count_all [] all = refl
count_all (u ∷ us) all =
    let here : one_if u.fresh ≡ 1 = ap one_if (all u (first_in u us u refl)) in
    let later = count_all us (λ v h. all v (later_in u us v h)) in
    sum_by-cons (λ (v : WorkUnit). one_if v.fresh) u us ∙ omega arith

-- those that are owed aren't
pub new_count_told : (parts : Table Marks) (held : Held) (limits : Limits)
    → new_count (units_of_parts parts held limits) ≡ length (new_units parts held limits)
unfolding units_of_parts
new_count_told parts held limits =
    let olds = count_none (owed_units parts held limits)
    (λ u h. let o = old_member parts held limits u h in sym (ap (λ (x : WorkUnit). x.fresh) o.is)) in
    let news = count_all (new_units parts held limits)
    (λ u h. let n = new_member parts held limits u h in sym (ap (λ (x : WorkUnit). x.fresh) n.is)) in
    sum_by-append (λ (v : WorkUnit). one_if v.fresh) (owed_units parts held limits) (new_units parts held limits)
    ∙ omega arith
