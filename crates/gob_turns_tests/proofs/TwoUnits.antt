-- The two units can have turns.
use Rattle.std.proofs.Common.{◌≡◌, ◌≢◌, ⊎_elim, ℕ, ◌<◌, ◌^◌, true, List, [], ◌∷◌, codes, refl, subst, sym, arith}
use Rattle.std.specs.List.{Contains, IsDistinct}
use Rattle.std.specs.Str.{is_utf8, chars}
use Rattle.std.proofs.lemmas.Str.{IsUtf8-from_is_utf8}
use Rattle.gob_plan.specs.declared.plan.TurnRules.{TurnRules}
use Rattle.gob_plan.specs.declared.units.Unit.{Unit as WorkUnit}
use Rattle.gob_ledger.specs.Laws.{ProperUnit}
use Rattle.gob_ledger.specs.Units.{same_unit}
use Rattle.gob_ledger.proofs.Members.{in_cases, none_in}
use Rattle.gob_task.specs.Task.{IsPullable}
use Rattle.gob_task.specs.Turn.{TurnRulesValue}
use Rattle.gob_turns.specs.Asked.{MayHaveTurns}
use Rattle.gob_turns_tests.specs.declared.kinds.Lines.TheVariants.{Plain}
use Rattle.gob_turns_tests.specs.Given.{rules_with, turns_given, given_units, unit_to}
use Rattle.gob_turns_tests.specs.Plans.{plan_for}

abbrev pub rules_given : TurnRulesValue
rules_given = rules_with (plan_for Plain) 3

each_of_two : (P : WorkUnit → Type 0) → P (unit_to (codes "a.log") 8) → P (unit_to (codes "b.log") 5)
    → (u : WorkUnit) → Contains given_units u → P u
each_of_two P first second u at = ⊎_elim
    (λ e. subst P e first)
    (λ k. ⊎_elim (λ e. subst P e second) (λ none. none_in u none)
    (in_cases (unit_to (codes "b.log") 5) [] u k))
    (in_cases (unit_to (codes "a.log") 8) (unit_to (codes "b.log") 5 ∷ []) u at)

pullable : (part : List ℕ) (hi : ℕ) → part ≢ [] → 0 < hi → hi < 2 ^ 64 → IsPullable (unit_to part hi)
pullable part hi named some small = record { listed = refl; named = named; bytes = some; end = small }

may_given : MayHaveTurns rules_given turns_given given_units
unfolding IsDistinct is_utf8 chars lib.Utf8.encode
may_given = record {
  named = refl;
  retries = omega arith;
  branches = omega arith;
  slots = omega arith;
  schedule = omega arith;
  some = omega arith;
  piece = refl;
  few = omega arith;
  once = ((refl, tt), (tt, tt));
  proper = each_of_two ProperUnit
      (record { named = λ e. cc; text = IsUtf8-from_is_utf8 (codes "a.log") refl; small = omega arith })
      (record { named = λ e. cc; text = IsUtf8-from_is_utf8 (codes "b.log") refl; small = omega arith });
  pullable = λ u at listed. each_of_two IsPullable
      (pullable (codes "a.log") 8 (λ e. cc) (omega arith) (omega arith))
      (pullable (codes "b.log") 5 (λ e. cc) (omega arith) (omega arith)) u at;
}

pub may_have : (rules : TurnRulesValue) (turns : TurnRules) (units : List WorkUnit) → rules ≡ rules_given
    → turns ≡ turns_given → units ≡ given_units → MayHaveTurns rules turns units
may_have rules turns units a b c =
    subst (λ r. MayHaveTurns r turns units) (sym a)
    (subst (λ t. MayHaveTurns rules_given t units) (sym b)
    (subst (λ us. MayHaveTurns rules_given turns_given us) (sym c) may_given))
