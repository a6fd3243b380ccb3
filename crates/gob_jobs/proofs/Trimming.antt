-- What was trimmed stays as it is.
use Rattle.std.proofs.Common.{◌≡◌, ℕ, Bool, true, false, cond, List, [], ◌∷◌, refl, sym, ap, ◌∙◌}
use Rattle.std.proofs.lemmas.Bool.{true≢false}
use Rattle.gob_jobs.specs.Words.{is_blank, without_front, before_text, without_end, without_blanks}

-- the text is empty or begins with another byte than a blank
Begins : List ℕ → Type 0
Begins [] = Unit {0}
Begins (b ∷ bs) = is_blank b ≡ false

begins_trimmed : (text : List ℕ) → Begins (without_front text)
unfolding Begins
begins_trimmed [] = tt
begins_trimmed (b ∷ bs) = elim (is_blank b) as (λ v. is_blank b ≡ v → Begins (cond v (without_front bs) (b ∷ bs))) [
  | true ↦ λ e. begins_trimmed bs
  | false ↦ λ e. e
] refl

begins_stays : (text : List ℕ) → Begins text → without_front text ≡ text
unfolding Begins
begins_stays [] begins = refl
begins_stays (b ∷ bs) begins = ap (λ v. cond v (without_front bs) (b ∷ bs)) begins

begins_before : (b : ℕ) (text : List ℕ) → is_blank b ≡ false → Begins (before_text b text)
unfolding Begins
begins_before b [] begins = rw begins begins
begins_before b (c ∷ cs) begins = begins

begins_end : (text : List ℕ) → Begins text → Begins (without_end text)
unfolding Begins
begins_end [] begins = tt
begins_end (b ∷ bs) begins = begins_before b (without_end bs) begins

end_before : (b : ℕ) (text : List ℕ) → without_end text ≡ text → without_end (before_text b text) ≡ before_text b text
end_before b [] stays = elim (is_blank b) as (λ v. is_blank b ≡ v
    → without_end (cond v [] (b ∷ [])) ≡ cond v [] (b ∷ [])) [
      | true ↦ λ e. refl
      | false ↦ λ e. ap (λ v. cond v [] (b ∷ [])) e
    ] refl
end_before b (c ∷ cs) stays = ap (before_text b) stays

end_twice : (text : List ℕ) → without_end (without_end text) ≡ without_end text
end_twice [] = refl
end_twice (b ∷ bs) = end_before b (without_end bs) (end_twice bs)

pub trimmed_twice : (text : List ℕ) → without_blanks (without_blanks text) ≡ without_blanks text
unfolding without_blanks
trimmed_twice text =
    let begins = begins_end (without_front text) (begins_trimmed text) in
    ap without_end (begins_stays (without_end (without_front text)) begins) ∙ end_twice (without_front text)
