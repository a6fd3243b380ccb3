-- Blanks taken off one by one.
use Rattle.std.proofs.Common.{◌≡◌, ◌≢◌, ℕ, suc, ◌-◌, ◌≤◌, ◌||◌, nat_eq, true, false, cond, List, [], ◌∷◌, ◌++◌}
use Rattle.std.proofs.Common.{length, take, get_or, refl, sym, ap, ◌∙◌, arith}
use Rattle.std.proofs.lemmas.Bool.{eqb-true, ne_eqb}
use Rattle.gob_jobs.specs.Words.{is_blank, without_front, before_text, without_end}

pub end_blank : (xs : List ℕ) (b : ℕ) → is_blank b ≡ true → without_end (xs ++ b ∷ []) ≡ without_end xs
end_blank [] b is = ap (λ v. cond v [] (b ∷ [])) is
end_blank (x ∷ xs) b is = ap (before_text x) (end_blank xs b is)

before_more : (x : ℕ) (xs : List ℕ) (b : ℕ) → before_text x (xs ++ b ∷ []) ≡ x ∷ (xs ++ b ∷ [])
before_more x [] b = refl
before_more x (c ∷ cs) b = refl

pub end_other : (xs : List ℕ) (b : ℕ) → is_blank b ≡ false → without_end (xs ++ b ∷ []) ≡ xs ++ b ∷ []
end_other [] b is = ap (λ v. cond v [] (b ∷ [])) is
end_other (x ∷ xs) b is = ap (before_text x) (end_other xs b is) ∙ before_more x xs b

pub front_blank : (b : ℕ) (bs : List ℕ) → is_blank b ≡ true → without_front (b ∷ bs) ≡ without_front bs
front_blank b bs is = ap (λ v. cond v (without_front bs) (b ∷ bs)) is

pub front_other : (b : ℕ) (bs : List ℕ) → is_blank b ≡ false → without_front (b ∷ bs) ≡ b ∷ bs
front_other b bs is = ap (λ v. cond v (without_front bs) (b ∷ bs)) is

-- ---- the last byte of a text

parted : (text : List ℕ) → 1 ≤ length text → text ≡ take (length text - 1) text ++ get_or text (length text - 1) 0 ∷ []
parted [] some = absurd (omega arith)
parted (b ∷ []) some = refl
parted (b ∷ c ∷ cs) some =
    let e : length (b ∷ c ∷ cs) - 1 ≡ suc (length (c ∷ cs) - 1) = omega arith in
    rw e (ap (λ x. b ∷ x) (parted (c ∷ cs) (omega arith)))

pub last_blank : (text : List ℕ) → 1 ≤ length text → is_blank (get_or text (length text - 1) 0) ≡ true
    → without_end text ≡ without_end (take (length text - 1) text)
last_blank text some is = ap without_end (parted text some)
    ∙ end_blank (take (length text - 1) text) (get_or text (length text - 1) 0) is

pub last_other : (text : List ℕ) → 1 ≤ length text → is_blank (get_or text (length text - 1) 0) ≡ false
    → without_end text ≡ text
last_other text some is =
    ap without_end (parted text some) ∙ (end_other (take (length text - 1) text) (get_or text (length text - 1) 0) is
    ∙ sym (parted text some))

-- ---- a text that was stripped

other_blank : (b : ℕ) → (b ≡ 32 → ⊥) → (b ≡ 9 → ⊥) → is_blank b ≡ false
other_blank b space tab =
    elim (nat_eq b 32) as (λ v. nat_eq b 32 ≡ v → (v || nat_eq b 9) ≡ false) [
      | true ↦ λ e. absurd (space (eqb-true b 32 e))
      | false ↦ λ e. ne_eqb b 9 tab
    ] refl

pub front_kept : (text : List ℕ) → ((rest : List ℕ) → text ≢ 32 ∷ rest) → ((rest : List ℕ) → text ≢ 9 ∷ rest)
    → without_front text ≡ text
front_kept [] space tab = refl
front_kept (b ∷ bs) space tab = front_other b bs (other_blank b (λ e. space bs (ap (λ x. x ∷ bs) e))
    (λ e. tab bs (ap (λ x. x ∷ bs) e)))

pub end_stripped : (b : ℕ) (text rest : List ℕ) → is_blank b ≡ true → text ≡ rest ++ b ∷ []
    → without_end text ≡ without_end rest
end_stripped b text rest is e = ap without_end e ∙ end_blank rest b is

pub end_kept : (text : List ℕ) → ((front : List ℕ) → text ≢ front ++ 32 ∷ [])
    → ((front : List ℕ) → text ≢ front ++ 9 ∷ []) → without_end text ≡ text
end_kept [] space tab = refl
end_kept (b ∷ bs) space tab =
    let text = b ∷ bs in
    let cut = parted text (omega arith) in
    last_other text (omega arith)
    (other_blank (get_or text (length text - 1) 0)
    (λ e. space (take (length text - 1) text) (cut ∙ ap (λ x. take (length text - 1) text ++ x ∷ []) e))
    (λ e. tab (take (length text - 1) text) (cut ∙ ap (λ x. take (length text - 1) text ++ x ∷ []) e)))
