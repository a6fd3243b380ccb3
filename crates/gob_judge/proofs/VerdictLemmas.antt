-- Names up to their first slash, policies that are tried one after the other, and flags in place of verdicts.
use Rattle.std.proofs.Common.{◌≡◌, ◌≢◌, ℕ, suc, ◌<◌, Bool, true, false, cond, not, ◌&&◌, ◌||◌, List, [], ◌∷◌, ◌++◌}
use Rattle.std.proofs.Common.{length, map, get_or, Some, None, option_map, refl, ap, ◌∙◌, arith}
use Rattle.std.proofs.lemmas.Bool.{ne_eqb}
use Rattle.std.specs.List.{list_all, list_any}
use Rattle.gob_plan.specs.declared.plan.CommitPolicy.TheVariants.{Full, Successful}
use Rattle.gob_meaning.specs.Results.{Verdict}
use Rattle.gob_ledger.specs.Groups.{before_slash}
use Rattle.gob_ledger.specs.Next.{is_good}
use Rattle.gob_judge.specs.Verdicts.{AllowedIsTheLedgers}

pub before_first_slash : (xs ys : List ℕ) → ((i : ℕ) → i < length xs → get_or xs i 0 ≢ 47)
    → before_slash (xs ++ 47 ∷ ys) ≡ Some xs
before_first_slash [] ys free = refl
before_first_slash (x ∷ xs) ys free =
    ap (λ b. cond b (Some []) (option_map (λ front. x ∷ front) (before_slash (xs ++ 47 ∷ ys))))
    (ne_eqb x 47 (free 0 (omega arith)))
    ∙ ap (option_map (λ front. x ∷ front)) (before_first_slash xs ys (λ i less. free (suc i) (omega (arith, less))))

pub before_no_slash : (xs : List ℕ) → ((i : ℕ) → i < length xs → get_or xs i 0 ≢ 47) → before_slash xs ≡ None
before_no_slash [] free = refl
before_no_slash (x ∷ xs) free =
    ap (λ b. cond b (Some []) (option_map (λ front. x ∷ front) (before_slash xs))) (ne_eqb x 47 (free 0 (omega arith)))
    ∙ ap (option_map (λ front. x ∷ front)) (before_no_slash xs (λ i less. free (suc i) (omega (arith, less))))

all_flags : (all : List Verdict) → list_all (λ g. g) (map is_good all) ≡ list_all is_good all
all_flags [] = refl
all_flags (v ∷ vs) = ap (λ b. is_good v && b) (all_flags vs)

pub allowed_is : AllowedIsTheLedgers
allowed_is Full all v = all_flags all
allowed_is Successful all v = refl

-- no flag is false where all are true
pub none_false : (is_false : Bool → Bool) → is_false true ≡ false → is_false false ≡ true → (flags : List Bool)
    → not (list_any is_false flags) ≡ list_all (λ g. g) flags
none_false f off on [] = refl
none_false f off on (true ∷ gs) = ap (λ b. not (b || list_any f gs)) off ∙ none_false f off on gs
none_false f off on (false ∷ gs) = ap (λ b. not (b || list_any f gs)) on
