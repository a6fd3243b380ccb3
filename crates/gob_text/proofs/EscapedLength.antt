-- How long an escaped name is.
use Rattle.std.proofs.Common.{◌≡◌, ℕ, ◌+◌, ◌-◌, ◌^◌, ◌<◌, Bool, true, false, cond, List, [], ◌∷◌, ◌++◌, length, take}
use Rattle.std.proofs.Common.{get_or, min, refl, ap, subst, ◌∙◌, arith, append-nil, length-append}
use Rattle.std.specs.List.{flat_map}
use Rattle.std.proofs.lemmas.List.{take_more}
use Rattle.std.proofs.lemmas.List.Concat.{flat_map-append}
use Rattle.gob_bytes.specs.Escapes.{escape_of, is_plain}
use Rattle.percent_encoding.specs.Percent.{percent_encode_byte}

one_escaped : (b : ℕ) → length (cond (is_plain b) (b ∷ []) (percent_encode_byte b)) ≡ cond (is_plain b) 1 3
unfolding percent_encode_byte
one_escaped b =
    elim (is_plain b) as
    (λ v. length (cond v (b ∷ []) (percent_encode_byte b)) ≡ cond v 1 3) [ true ↦ refl | false ↦ refl ]

escaped_more : (name : List ℕ) (i : ℕ) → i < length name →
    length (escape_of (take (i + 1) name)) ≡ length (escape_of (take i name)) + cond (is_plain (get_or name i 0)) 1 3
unfolding escape_of
escaped_more name i inside =
    let f : ℕ → List ℕ = λ b. cond (is_plain b) (b ∷ []) (percent_encode_byte b) in
    let b : ℕ = get_or name i 0 in
    ap (λ bs. length (flat_map f bs)) (take_more name i 0 inside)
    ∙ ap length (flat_map-append f (take i name) (b ∷ []))
    ∙ length-append (flat_map f (take i name)) (f b ++ [])
    ∙ ap (λ n. length (flat_map f (take i name)) + n) (ap length (append-nil (f b)) ∙ one_escaped b)

pub escaped_none : length (escape_of []) ≡ 0
unfolding escape_of
escaped_none = refl

pub escaped_step : (name bytes : List ℕ) (i len more now : ℕ) (plain : Bool) → bytes ≡ name → i < length bytes →
    len ≡ min (length (escape_of (take i name))) (2 ^ 64 - 1) → plain ≡ is_plain (get_or bytes i 0) →
    more ≡ cond plain 1 3 → now ≡ min (len + more) (2 ^ 64 - 1) →
    now ≡ min (length (escape_of (take (i + 1) name))) (2 ^ 64 - 1)
escaped_step name bytes i len more now plain same inside so_far tests adds is =
    let within : i < length name = subst (λ (bs : List ℕ). i < length bs) same inside in
    let step = escaped_more name i within in
    let value : more ≡ cond (is_plain (get_or name i 0)) 1 3 = adds
    ∙ ap (λ v. cond v 1 3) (tests ∙ ap (λ (bs : List ℕ). is_plain (get_or bs i 0)) same) in
    omega arith
