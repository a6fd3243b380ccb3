-- Names in a job's folder, by their fronts.
use Rattle.std.proofs.Common.{◌≡◌, true, false, cond, nat_eq, ◌&&◌, ◌||◌, ℕ, List, [], ◌∷◌, ◌++◌, refl, ap, ◌∙◌, codes}
use Rattle.std.proofs.lemmas.Bool.{and_from, eq-eqb}
use Rattle.gob_bytes.proofs.Tables.{name_itself}
use Rattle.gob_bytes.specs.Paths.{begins_with, delta_folder, is_published, keeps_state, sequence_name, state_name}
use Rattle.gob_bytes.specs.Paths.{under}

pub front_more : (front more : List ℕ) → begins_with front (front ++ more) ≡ true
front_more [] [] = refl
front_more [] (b ∷ more) = refl
front_more (b ∷ front) more = and_from (nat_eq b b) (begins_with front (front ++ more)) (eq-eqb b b refl)
    (front_more front more)

pub under_front : (job a b : List ℕ) → begins_with (under job a) (under job b) ≡ begins_with a b
under_front [] a b = refl
under_front (c ∷ job) a b =
    ap (λ v. v && begins_with (under job a) (under job b)) (eq-eqb c c refl) ∙ under_front job a b

pub cancel_under : (job x y : List ℕ) → under job x ≡ under job y → x ≡ y
cancel_under [] x y e = cc
cancel_under (b ∷ job) x y e = cancel_under job x y (let tail : under job x ≡ under job y = cc in tail)

pub is_state_file : (job : List ℕ) → keeps_state job (state_name job) ≡ true
is_state_file job = ap (λ b. b || begins_with (delta_folder job) (state_name job)) (name_itself (state_name job))

pub sequence_unpublished : (job : List ℕ) → is_published job (sequence_name job) ≡ false
sequence_unpublished job =
    ap (λ v. cond v true (begins_with (under job (codes "err/")) (sequence_name job)))
    (under_front job (codes "out/") (codes "seq"))
    ∙ under_front job (codes "err/") (codes "seq")
