-- The names of published files, of the state's and of staged ones are apart.
use Rattle.std.proofs.Common.{◌≡◌, ◌⊎◌, inl, inr, ⊎_elim, ℕ, Bool, true, false, cond, ◌||◌, nat_eq, List, [], ◌∷◌}
use Rattle.std.proofs.Common.{refl, sym, ap, subst, ◌∙◌, codes}
use Rattle.std.specs.Str.{bytes_eq}
use Rattle.std.proofs.lemmas.Bool.{and_parts, eqb-true, eq-eqb, false_from_ne_true}
use Rattle.gob_bytes.proofs.Tables.{same_name}
use Rattle.gob_bytes.proofs.Paths.{under_front}
use Rattle.gob_bytes.specs.Paths.{begins_with, under, staging, state_name, delta_folder, keeps_state, is_published}
use Rattle.gob_device.specs.Supply.{Held}
use Rattle.gob_meaning.specs.Items.{Target, out, err, bad}
use Rattle.gob_meaning.specs.Names.{target_name}
use Rattle.gob_plan.specs.declared.plan.Plan.{Plan}
use Rattle.gob_ledger.specs.Next.{Judged}
use Rattle.gob_ledger.specs.Expected.{IsPublished}
use Rattle.gob_ledger.proofs.DeltaNames.{state_not_below}

begins_apart : (x y : ℕ) (a b name : List ℕ) → nat_eq x y ≡ false → begins_with (x ∷ a) name ≡ true
    → begins_with (y ∷ b) name ≡ true → ⊥
begins_apart x y a b [] apart e f = absurd (let no : false ≡ true = e in cc)
begins_apart x y a b (c ∷ cs) apart e f =
    let p = eqb-true x c (and_parts (nat_eq x c) _ e).0 in
    let q = eqb-true y c (and_parts (nat_eq y c) _ f).0 in
    let no : true ≡ false = sym (eq-eqb x x refl) ∙ (ap (nat_eq x) (p ∙ sym q) ∙ apart) in cc

fronts_apart : (job : List ℕ) (x y : ℕ) (a b name : List ℕ) → nat_eq x y ≡ false
    → begins_with (under job (x ∷ a)) name ≡ true → begins_with (under job (y ∷ b)) name ≡ true → ⊥
fronts_apart [] x y a b [] apart e f = absurd (let no : false ≡ true = e in cc)
fronts_apart [] x y a b (c ∷ cs) apart e f = begins_apart x y a b cs apart (and_parts (nat_eq 47 c) _ e).1
    (and_parts (nat_eq 47 c) _ f).1
fronts_apart (j ∷ job) x y a b [] apart e f = absurd (let no : false ≡ true = e in cc)
fronts_apart (j ∷ job) x y a b (c ∷ cs) apart e f = fronts_apart job x y a b cs apart (and_parts (nat_eq j c) _ e).1
    (and_parts (nat_eq j c) _ f).1

out_or_err : (job name : List ℕ) → is_published job name ≡ true → (begins_with (under job (codes "out/")) name ≡ true)
    ⊎ (begins_with (under job (codes "err/")) name ≡ true)
out_or_err job name e = cases (begins_with (under job (codes "out/")) name) refl e
  where
    cases : (b : Bool) → begins_with (under job (codes "out/")) name ≡ b
        → cond b true (begins_with (under job (codes "err/")) name) ≡ true
        → (begins_with (under job (codes "out/")) name ≡ true)
        ⊎ (begins_with (under job (codes "err/")) name ≡ true)
    cases true is e = inl is
    cases false is e = inr e

pub published_unstaged : (job name : List ℕ) → is_published job name ≡ true → begins_with (staging job) name ≡ false
published_unstaged job name e = false_from_ne_true (begins_with (staging job) name) (λ s. ⊎_elim
    (λ p. fronts_apart job 111 115 (codes "ut/") (codes "tage/") name refl p s)
    (λ p. fronts_apart job 101 115 (codes "rr/") (codes "tage/") name refl p s)
    (out_or_err job name e))

state_or_change : (job name : List ℕ) → keeps_state job name ≡ true → (name ≡ state_name job)
    ⊎ (begins_with (delta_folder job) name ≡ true)
state_or_change job name e = cases (bytes_eq name (state_name job)) refl e
  where
    cases : (b : Bool) → bytes_eq name (state_name job) ≡ b → (b || begins_with (delta_folder job) name) ≡ true
        → (name ≡ state_name job) ⊎ (begins_with (delta_folder job) name ≡ true)
    cases true is e = inl (same_name name (state_name job) is)
    cases false is e = inr e

pub kept_unstaged : (job name : List ℕ) → keeps_state job name ≡ true → begins_with (staging job) name ≡ false
kept_unstaged job name e = false_from_ne_true (begins_with (staging job) name) (λ s. ⊎_elim
    (λ is. let no : true ≡ false = sym s ∙ (ap (begins_with (staging job)) is
    ∙ under_front job (codes "stage/") (codes "state")) in cc)
    (λ d. fronts_apart job 100 115 (codes "elta/") (codes "tage/") name refl d s)
    (state_or_change job name e))

published_state : (job name : List ℕ) → begins_with (under job (codes "out/")) name ≡ true → name ≡ state_name job → ⊥
published_state job name p is = let no : true ≡ false = sym p
    ∙ (ap (begins_with (under job (codes "out/"))) is ∙ under_front job (codes "out/") (codes "state")) in cc

failed_state : (job name : List ℕ) → begins_with (under job (codes "err/")) name ≡ true → name ≡ state_name job → ⊥
failed_state job name p is = let no : true ≡ false = sym p ∙ (ap (begins_with (under job (codes "err/"))) is
    ∙ under_front job (codes "err/") (codes "state")) in cc

pub published_not_kept : (job name : List ℕ) → is_published job name ≡ true → keeps_state job name ≡ true → ⊥
published_not_kept job name e k = ⊎_elim
    (λ p. ⊎_elim (λ is. published_state job name p is) (λ d. fronts_apart job 111 100 (codes "ut/") (codes "elta/") name
    refl p d) (state_or_change job name k))
    (λ p. ⊎_elim (λ is. failed_state job name p is) (λ d. fronts_apart job 101 100 (codes "rr/") (codes "elta/") name
    refl p d) (state_or_change job name k))
    (out_or_err job name e)

pub made_in : (job : List ℕ) (plan : Plan) (part : List ℕ) (lo hi : ℕ) (t : Target)
    → is_published job (under job (target_name plan part lo hi t)) ≡ true
unfolding target_name
made_in job plan part lo hi (out b place) = ap (λ v. cond v true
    (begins_with (under job (codes "err/")) (under job (target_name plan part lo hi (out b place)))))
    (under_front job (codes "out/") (target_name plan part lo hi (out b place)))
made_in job plan part lo hi (err b place) =
    ap (λ v. cond v true (begins_with (under job (codes "err/"))
    (under job (target_name plan part lo hi (err b place)))))
    (under_front job (codes "out/") (target_name plan part lo hi (err b place)))
    ∙ under_front job (codes "err/") (target_name plan part lo hi (err b place))
made_in job plan part lo hi bad =
    ap (λ v. cond v true (begins_with (under job (codes "err/")) (under job (target_name plan part lo hi bad))))
    (under_front job (codes "out/") (target_name plan part lo hi bad))
    ∙ under_front job (codes "err/") (target_name plan part lo hi bad)

-- what units make is published
pub makes_published : (job : List ℕ) (plan : Plan) (held : Held) (done : List Judged) (name content : List ℕ)
    → IsPublished job plan held done name content → is_published job name ≡ true
makes_published job plan held done name content u =
    subst (λ n. is_published job n ≡ true) (sym (u.called ∙ ap (under job) (sym u.made.called)))
    (made_in job plan u.unit.0.part u.unit.0.lo u.unit.0.hi u.made.target)
