-- After any calls the core stands where their number and the units that they ended say.
use Rattle.std.proofs.Common.{◌≡◌, ℕ, zero, suc, ◌+◌, ◌<◌, ◌%◌, Bool, true, false, cond, not, ◌&&◌, ◌||◌, nat_eq}
use Rattle.std.proofs.Common.{List, [], ◌∷◌, filter, length, take, refl, sym, ap, ◌∙◌, arith}
use Rattle.std.specs.Prelude.{slice_get, slice_index}
use Rattle.std.proofs.Math.Nat.{mod-add-mod, zero-mod}
use Rattle.std.specs.List.{list_any, range_with_len}
use Rattle.gob_plan.specs.declared.plan.TurnRules.{TurnRules}
use Rattle.gob_ledger.specs.Counted.{whose_turn}
use Rattle.gob_sched.specs.Calls.{Call, turn_done, task_ended, MayCallAll, TurnsFollowTheSchedule, after_call}
use Rattle.gob_sched.specs.Calls.{core_after_calls, ends_unit, not_ended}
use Rattle.gob_sched.specs.CoreValue.{CoreValue, after_end, after_turn, core_at_start}

-- what is known of the core after some calls, where so many came before them
record StandsAfter (c d : CoreValue) (before : ℕ) (calls : List Call) : Type 0 where
  rules : d.rules ≡ c.rules
  place : d.place ≡ (before + length calls) % length c.rules.schedule
  left : d.left ≡ filter (λ u. not (list_any (ends_unit u) calls)) c.left

no_call : (us : List ℕ) → us ≡ filter (λ u. true) us
no_call [] = refl
no_call (u ∷ us) = ap (λ vs. u ∷ vs) (no_call us)

both_tests : (f g : ℕ → Bool) (us : List ℕ) → filter (λ u. not (g u)) (filter (λ u. not (f u)) us) ≡ filter
    (λ u. not (f u || g u)) us
both_tests f g [] = refl
both_tests f g (u ∷ us) = cases (f u) (g u) refl refl (both_tests f g us)
  where
    rest : List ℕ
    rest = filter (λ v. not (f v || g v)) us

    inner : List ℕ
    inner = filter (λ v. not (f v)) us

    cases : (a b : Bool) → f u ≡ a → g u ≡ b → filter (λ v. not (g v)) inner ≡ rest
        → filter (λ v. not (g v)) (cond (not (f u)) (u ∷ inner) inner) ≡ cond (not (f u || g u)) (u ∷ rest) rest
    cases true b p q h = ap (λ x. filter (λ v. not (g v)) (cond (not x) (u ∷ inner) inner)) p ∙ (h
        ∙ sym (ap (λ x. cond (not (x || g u)) (u ∷ rest) rest) p))
    cases false true p q h =
        ap (λ x. filter (λ v. not (g v)) (cond (not x) (u ∷ inner) inner)) p
        ∙ (ap (λ x. cond (not x) (u ∷ filter (λ v. not (g v)) inner) (filter (λ v. not (g v)) inner)) q
        ∙ (h ∙ sym ((λ k. cond (not (p k || q k)) (u ∷ rest) rest))))
    cases false false p q h =
        ap (λ x. filter (λ v. not (g v)) (cond (not x) (u ∷ inner) inner)) p
        ∙ (ap (λ x. cond (not x) (u ∷ filter (λ v. not (g v)) inner) (filter (λ v. not (g v)) inner)) q
        ∙ (ap (λ vs. u ∷ vs) h ∙ sym ((λ k. cond (not (p k || q k)) (u ∷ rest) rest))))

one_more : (place before n : ℕ) → place ≡ before % n → (place + 1) % n ≡ (before + 1) % n
one_more place before n is = ap (λ p. (p + 1) % n) is ∙ mod-add-mod before n 1

stands_after : (calls : List Call) (c : CoreValue) (before : ℕ) → c.place ≡ before % length c.rules.schedule
    → StandsAfter c (core_after_calls c calls) before calls
stands_after [] c before is = record {
  rules = refl;
  place = is ∙ ap (λ k. k % length c.rules.schedule) (let e : before ≡ before + 0 = omega arith in e);
  left = no_call c.left;
}
stands_after (turn_done ∷ xs) c before is =
    let later = stands_after xs (after_turn c) (before + 1) (one_more c.place before (length c.rules.schedule) is) in
    record {
      rules = later.rules;
      place = later.place ∙ ap (λ k. k % length c.rules.schedule)
          (let e : before + 1 + length xs ≡ before + suc (length xs) = omega arith in e);
      left = later.left;
    }
stands_after (task_ended unit ∷ xs) c before is =
    let later = stands_after xs (after_end unit c) (before + 1) (one_more c.place before (length c.rules.schedule) is)
    in
    record {
      rules = later.rules;
      place = later.place ∙ ap (λ k. k % length c.rules.schedule)
          (let e : before + 1 + length xs ≡ before + suc (length xs) = omega arith in e);
      left = later.left ∙ both_tests (λ u. nat_eq u unit) (λ u. list_any (ends_unit u) xs) c.left;
    }

pub follows : TurnsFollowTheSchedule
follows rules units calls some may =
    let n = length rules.schedule in
    let k = length calls in
    let s = stands_after calls (core_at_start rules units) 0 (sym (zero-mod n)) in
    let d = core_after_calls (core_at_start rules units) calls in
    let once : d.place % n ≡ k % n =
    ap (λ p. p % n) s.place ∙ (ap (λ p. p % n) (let e : (0 + k) % n ≡ k % n + 0 =
    ap (λ j. j % n) (let z : 0 + k ≡ k = omega arith in z) ∙ (let y : k % n ≡ k % n + 0 = omega arith in y) in e)
    ∙ (mod-add-mod k n 0 ∙ ap (λ j. j % n) (let z : k + 0 ≡ k = omega arith in z))) in
    ap (λ r. whose_turn r d.place d.left) s.rules
    ∙ (ap (λ us. whose_turn rules d.place us) s.left
    ∙ ap (λ p. slice_get (take rules.slots (not_ended units calls))
    (slice_index rules.schedule p % length (take rules.slots (not_ended units calls)))) once)
