-- UTF-8 is bytes.
use Rattle.std.proofs.Common.{◌≡◌, ⊎_elim, ℕ, ◌+◌, ◌/◌, ◌%◌, ◌<◌, ◌≤◌, true, ltb, List, [], ◌∷◌, subst, arith}
use Rattle.std.specs.Str.{IsUtf8}
use Rattle.std.proofs.lemmas.Bool.{and_parts, ltb-true, cond_both}
use Rattle.std.proofs.lemmas.List.Elements.{All-nil, All-cons, All-append}
use Rattle.gob_bytes.specs.Escapes.{AreBytes}
use lib.Utf8 as utf8

abbrev P : ℕ → Type 0
P b = b < 256

one : (a : ℕ) → a < 256 → AreBytes (a ∷ [])
one a l = All-cons P a [] l (All-nil P)

two : (a b : ℕ) → a < 256 → b < 256 → AreBytes (a ∷ b ∷ [])
two a b x y = All-cons P a (b ∷ []) x (one b y)

three : (a b c : ℕ) → a < 256 → b < 256 → c < 256 → AreBytes (a ∷ b ∷ c ∷ [])
three a b c x y z = All-cons P a (b ∷ c ∷ []) x (two b c y z)

four : (a b c d : ℕ) → a < 256 → b < 256 → c < 256 → d < 256 → AreBytes (a ∷ b ∷ c ∷ d ∷ [])
four a b c d x y z w = All-cons P a (b ∷ c ∷ d ∷ []) x (three b c d y z w)

bits_small : (n : ℕ) → n % 64 < 64
bits_small n = omega arith

next_small : (n : ℕ) → utf8.next n < 256
next_small n = let b = bits_small n in omega (arith, b)

part_small : (c d n most : ℕ) → c / d < n → most + n ≤ 256 → most + c / d < 256
part_small c d n most l e = omega (arith, l, e)

over_64 : (c : ℕ) → c < 2048 → c / 64 < 32
over_64 c l = omega arith

over_4096 : (c : ℕ) → c < 65536 → c / 4096 < 16
over_4096 c l = omega arith

over_262144 : (c : ℕ) → c < 1114112 → c / 262144 < 5
over_262144 c l = omega arith

encoded_bytes : (c : ℕ) → c < 1114112 → AreBytes (utf8.encode c)
unfolding utf8.encode
encoded_bytes c small =
    cond_both (ltb c 128) _ _ AreBytes (λ e. let l = ltb-true c 128 e in one c (omega (arith, l))) (λ _.
    cond_both (ltb c 2048) _ _ AreBytes
    (λ e. two (192 + c / 64) (utf8.next c) (part_small c 64 32 192 (over_64 c (ltb-true c 2048 e)) (omega arith))
    (next_small c)) (λ _.
    cond_both (ltb c 65536) _ _ AreBytes
    (λ e. three (224 + c / 4096) (utf8.next (c / 64)) (utf8.next c)
    (part_small c 4096 16 224 (over_4096 c (ltb-true c 65536 e)) (omega arith)) (next_small (c / 64))
    (next_small c))
    (λ _. four (240 + c / 262144) (utf8.next (c / 4096)) (utf8.next (c / 64)) (utf8.next c)
    (part_small c 262144 5 240 (over_262144 c small) (omega arith)) (next_small (c / 4096)) (next_small (c / 64))
    (next_small c))))

scalar_small : (c : ℕ) → utf8.scalar c ≡ true → c < 1114112
scalar_small c e = ⊎_elim (λ l. omega (arith, l)) (λ l. l.1) (utf8.scalar_cases c e)

encodes_bytes : (cs : List ℕ) → utf8.scalars cs ≡ true → AreBytes (utf8.encodes cs)
encodes_bytes [] e = All-nil P
encodes_bytes (c ∷ cs) e =
    let p = and_parts (utf8.scalar c) (utf8.scalars cs) e in
    All-append P (utf8.encode c) (utf8.encodes cs) (encoded_bytes c (scalar_small c p.0)) (encodes_bytes cs p.1)

-- a text's bytes are bytes
pub text_bytes : (bs : List ℕ) → IsUtf8 bs → AreBytes bs
text_bytes bs u = subst AreBytes u.1.1 (encodes_bytes u.0 u.1.0)
