use Rattle.std.proofs.Common.{◌≡◌, ◌∙◌, ◌-◌, ◌<◌, ◌%◌, Some, length, sym, ap, get_or, arith, ℕ, List, [], ◌∷◌, refl}
use Rattle.gob_ledger.specs.Counted.{whose_turn}
use Rattle.gob_sched.specs.CoreValue.{CoreValue}
use Rattle.gob_sched.proofs.Rising.{named_unit, picked}
use Rattle.std.proofs.lemmas.Bool.{eqb-false}
use Rattle.gob_sched.proofs.turns.Core.pick.Goals as goal

not_empty : (us : List ℕ) → (length us ≡ 0 → ⊥) → 0 < length us
not_empty [] some = absurd (some refl)
not_empty (u ∷ us) some = omega arith

pub returns : goal.returns
returns c =
    let s = c.self.inside in
    let long : s.active.len ≡ length s.active.items = s.active.ok.0 in
    let some : 0 < length s.active.items = not_empty (s.active.items)
    (λ none. eqb-false _ 0 (sym c.is_empty.ensures ∙ c.if-is_empty.false) (long ∙ none)) in
    named_unit s.active.items s.rules.schedule c.as_slice.result.now s.place c.len.result c.index.result.now
    c.index.result.now
    c.as_slice.ensures (c.len.ensures ∙ long) some c.index.ensures
    ∙ (sym (picked s.rules s.place s.active.items s.waiting (s.units - s.waiting) s.in_schedule s.filled)
    ∙ ap (λ v. whose_turn v.rules v.place v.left) c.self.view_is)
