-- One more key.
use Rattle.std.proofs.Common.{◌≡◌, ℕ, ◌+◌, ◌<◌, Bool, true, false, cond, not, List, [], ◌∷◌, ◌++◌, length, drop, get_or}
use Rattle.std.proofs.Common.{filter, Some, None, refl, sym, ap, ◌∙◌, append_assoc}
use Rattle.std.specs.Option.{option_map}
use Rattle.std.specs.List.{slice_get}
use Rattle.std.proofs.lemmas.Option.{slice_get-get_or}
use Rattle.gob_bytes.specs.Tables.{Table, names_of}
use Rattle.gob_jobs.specs.Reading.{is_known}
use Rattle.gob_job.specs.KeysKnown.{unknown_of}
use Rattle.gob_job.proofs.ItemLoops.{item_more}

-- the key at a place
pub key_there : (entries : Table (List ℕ)) (i : ℕ) (key : List ℕ) → i < length entries
    → Some key ≡ option_map (λ e. e.0) (slice_get entries i) → key ≡ (get_or entries i ([], [])).0
key_there entries i key inside is = let e : Some key ≡ Some (get_or entries i ([], [])).0 =
    is ∙ ap (option_map (λ e. e.0)) (slice_get-get_or entries i ([], []) inside) in cc

pub key_missing : (entries : Table (List ℕ)) (i : ℕ) → i < length entries
    → None ≡ option_map (λ e. e.0) (slice_get entries i) → ⊥
key_missing entries i inside is = let e : None ≡ Some (get_or entries i ([], [])).0 =
    is ∙ ap (option_map (λ e. e.0)) (slice_get-get_or entries i ([], []) inside) in cc

one_then : (p : List ℕ → Bool) (k : List ℕ) (ks : List (List ℕ)) → filter p (k ∷ ks) ≡ filter p (k ∷ []) ++ filter p ks
one_then p k ks = elim (p k) as (λ v. cond v (k ∷ filter p ks) (filter p ks) ≡ cond v (k ∷ []) [] ++ filter p ks)
    [ true ↦ refl | false ↦ refl ]

pub unknown_step : (n : ℕ) (entries : Table (List ℕ)) (i : ℕ) (old new : List (List ℕ)) (key : List ℕ)
    {whole : List (List ℕ)} → i < length entries → Some key ≡ option_map (λ e. e.0) (slice_get entries i)
    → old ++ unknown_of n (names_of (drop i entries)) ≡ whole → new ≡ old ++ unknown_of n (key ∷ [])
    → new ++ unknown_of n (names_of (drop (i + 1) entries)) ≡ whole
unknown_step n entries i old new key inside is so_far added =
    let later = names_of (drop (i + 1) entries) in
    ap (λ m. m ++ unknown_of n later) added
    ∙ (append_assoc old (unknown_of n (key ∷ [])) (unknown_of n later)
    ∙ (ap (λ x. old ++ x)
    (sym (one_then (λ k. not (is_known n k)) key later)
    ∙ (ap (λ k. unknown_of n (k ∷ later)) (key_there entries i key inside is)
    ∙ ap (λ l. unknown_of n (names_of l)) (sym (item_more entries i ([], []) inside))))
    ∙ so_far))
