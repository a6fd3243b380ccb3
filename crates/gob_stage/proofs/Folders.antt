-- The folders of attempts: two of them have no name in common, and each is in the job's folder of staged files.
use Rattle.std.proofs.Common.{◌≡◌, ◌≢◌, ℕ, ◌≤◌, ◌<◌, ◌^◌, Bool, true, false, not, ◌&&◌, List, [], ◌∷◌, ◌++◌, refl, sym}
use Rattle.std.proofs.Common.{ap, subst, ◌∙◌, nat_eq, codes, arith, decimal}
use Rattle.std.specs.Char.{is_ascii_digit}
use Rattle.std.specs.List.{list_all}
use Rattle.std.specs.Str.{all_ascii_digits}
use Rattle.std.specs.Str.Parse.{digits_value}
use Rattle.std.proofs.lemmas.Bool.{and_parts, and_from, eq-eqb, eqb-true}
use Rattle.std.proofs.lemmas.Bool.Decides.{nat_tests}
use Rattle.std.proofs.lemmas.Fmt.{decimal_injective, digits_decimal}
use Rattle.std.proofs.lemmas.List.{append-nil, append_assoc, append_cancel_left}
use Rattle.std.proofs.lemmas.Str.Parse.{IsNumeralModel, numerals_by_value, tells_all_ascii_digits}
use Rattle.gob_bytes.specs.Paths.{attempt_folder, begins_with, staging, under}
use Rattle.gob_bytes.proofs.Forms.{own}
use Rattle.gob_bytes.proofs.Paths.{front_more}
use Rattle.gob_device.specs.Disk.{Files}
use Rattle.gob_device.specs.Names.{IsPathname, is_name_byte}
use Rattle.gob_device.proofs.Names.{name_before, name_bytes}
use Rattle.gob_recovery.specs.Commits.{OnlyBelow}
use Rattle.gob_stage.specs.Laws.{Apart, AttemptsAreApart, AttemptsAreStaged, SameBelow}

-- ---- the digits of a number

are_digits : (n : ℕ) → n < 2 ^ 64 → all_ascii_digits (decimal n) ≡ true
are_digits n small = digits_decimal own n small

digit_is_not : (sep b : ℕ) → sep < 48 → is_ascii_digit b ≡ true → not (nat_eq b sep) ≡ true
digit_is_not sep b below digit = grind (arith, nat_tests)

digits_have_no : (sep : ℕ) (bs : List ℕ) → sep < 48 → all_ascii_digits bs ≡ true
    → list_all (λ b. not (nat_eq b sep)) bs ≡ true
digits_have_no sep [] below all = refl
digits_have_no sep (b ∷ bs) below all =
    let parts = and_parts (is_ascii_digit b) (all_ascii_digits bs) all in
    and_from (not (nat_eq b sep)) (list_all (λ b. not (nat_eq b sep)) bs) (digit_is_not sep b below parts.0)
    (digits_have_no sep bs below parts.1)

digit_named : (b : ℕ) → is_ascii_digit b ≡ true → is_name_byte b ≡ true
digit_named b digit = digit_is_not 0 b (omega arith) digit

digits_named : (bs : List ℕ) → all_ascii_digits bs ≡ true → list_all is_name_byte bs ≡ true
digits_named [] all = refl
digits_named (b ∷ bs) all =
    let parts = and_parts (is_ascii_digit b) (all_ascii_digits bs) all in
    and_from (is_name_byte b) (list_all is_name_byte bs) (digit_named b parts.0) (digits_named bs parts.1)

-- ---- what stands before a byte that is not among it

-- two texts up to a byte that neither has before it
record SplitAlike (xs ys p q : List ℕ) : Type 0 where
  front : xs ≡ ys
  back : p ≡ q

split_alike : (sep : ℕ) (xs ys p q : List ℕ) → list_all (λ b. not (nat_eq b sep)) xs ≡ true
    → list_all (λ b. not (nat_eq b sep)) ys ≡ true
    → xs ++ sep ∷ p ≡ ys ++ sep ∷ q → SplitAlike xs ys p q
split_alike sep [] [] p q a b same = record { front = refl; back = let both : sep ∷ p ≡ sep ∷ q = same in cc }
split_alike sep [] (y ∷ ys) p q a b same =
    let first : sep ≡ y = let both : sep ∷ p ≡ y ∷ (ys ++ sep ∷ q) = same in cc in
    absurd (has_it sep y (sym first) (and_parts (not (nat_eq y sep)) (list_all (λ b. not (nat_eq b sep)) ys) b).0)
  where
    has_it : (sep y : ℕ) → y ≡ sep → not (nat_eq y sep) ≡ true → ⊥
    has_it sep y is isnt = let level : nat_eq y sep ≡ true = eq-eqb y sep is in
        let no : not true ≡ true = subst (λ b. not b ≡ true) level isnt in cc
split_alike sep (x ∷ xs) [] p q a b same =
    let first : x ≡ sep = let both : x ∷ (xs ++ sep ∷ p) ≡ sep ∷ q = same in cc in
    absurd (has_it sep x first (and_parts (not (nat_eq x sep)) (list_all (λ b. not (nat_eq b sep)) xs) a).0)
  where
    has_it : (sep y : ℕ) → y ≡ sep → not (nat_eq y sep) ≡ true → ⊥
    has_it sep y is isnt = let level : nat_eq y sep ≡ true = eq-eqb y sep is in
        let no : not true ≡ true = subst (λ b. not b ≡ true) level isnt in cc
split_alike sep (x ∷ xs) (y ∷ ys) p q a b same =
    let first : x ≡ y = let both : x ∷ (xs ++ sep ∷ p) ≡ y ∷ (ys ++ sep ∷ q) = same in cc in
    let rest : xs ++ sep ∷ p ≡ ys ++ sep ∷ q = let both : x ∷ (xs ++ sep ∷ p) ≡ y ∷ (ys ++ sep ∷ q) = same in cc in
    let later = split_alike sep xs ys p q (and_parts (not (nat_eq x sep)) (list_all (λ b. not (nat_eq b sep)) xs) a).1
    (and_parts (not (nat_eq y sep)) (list_all (λ b. not (nat_eq b sep)) ys) b).1 rest in
    record { front = λ i. first i ∷ later.front i; back = later.back }

-- ---- folders

-- what begins with a folder is the folder and more
rest_of : (front name : List ℕ) → begins_with front name ≡ true → (more : List ℕ) × (name ≡ front ++ more)
rest_of [] name begins = (name, refl)
rest_of (b ∷ front) [] begins = absurd (let no : false ≡ true = begins in cc)
rest_of (b ∷ front) (c ∷ name) begins =
    let parts = and_parts (nat_eq b c) (begins_with front name) begins in
    let later = rest_of front name parts.1 in
    (later.0, λ i. sym (eqb-true b c parts.0) i ∷ later.1 i)

-- a folder and what is behind it, from the job's folder of staged files on
pub folder_parts : (job : List ℕ) (unit attempt : ℕ) (more : List ℕ)
    → attempt_folder job unit attempt ++ more ≡ staging job ++ (decimal unit ++ 45 ∷ (decimal attempt ++ 47 ∷ more))
folder_parts job unit attempt more = simp append_assoc

one_attempt : (job : List ℕ) (unit attempt other again : ℕ) (x y : List ℕ) → unit < 2 ^ 32 → attempt < 2 ^ 32
    → other < 2 ^ 32 → again < 2 ^ 32
    → attempt_folder job unit attempt ++ x ≡ attempt_folder job other again ++ y → (unit ≡ other) × (attempt ≡ again)
one_attempt job unit attempt other again x y u a o g same =
    let all = sym (folder_parts job unit attempt x) ∙ (same ∙ folder_parts job other again y) in
    let numbers = append_cancel_left (staging job) (decimal unit ++ 45 ∷ (decimal attempt ++ 47 ∷ x))
    (decimal other ++ 45 ∷ (decimal again ++ 47 ∷ y)) all in
    let units = split_alike 45 (decimal unit) (decimal other) (decimal attempt ++ 47 ∷ x) (decimal again ++ 47 ∷ y)
    (no 45 unit (omega arith) u) (no 45 other (omega arith) o) numbers in
    let attempts = split_alike 47 (decimal attempt) (decimal again) x y (no 47 attempt (omega arith) a)
    (no 47 again (omega arith) g) units.back in (
      decimal_injective unit other (wide unit u) (wide other o) units.front,
      decimal_injective attempt again (wide attempt a) (wide again g) attempts.front,
    )
  where
    wide : (n : ℕ) → n < 2 ^ 32 → n < 2 ^ 64
    wide n small = omega (arith, small)

    no : (sep n : ℕ) → sep < 48 → n < 2 ^ 32 → list_all (λ b. not (nat_eq b sep)) (decimal n) ≡ true
    no sep n below small = digits_have_no sep (decimal n) below (are_digits n (wide n small))

pub attempts_apart : AttemptsAreApart
attempts_apart job unit attempt other again u a o g differ = record {
  names = names;
  maps = λ m n only name within. only name (out name within);
}
  where
    first : List ℕ
    first = attempt_folder job unit attempt

    second : List ℕ
    second = attempt_folder job other again

    both : (name : List ℕ) → begins_with first name ≡ true → begins_with second name ≡ true → ⊥
    both name one two =
        let x = rest_of first name one in
        let y = rest_of second name two in
        let same = one_attempt job unit attempt other again x.0 y.0 u a o g (sym x.1 ∙ y.1) in
        differ same.0 same.1

    names : (name : List ℕ) → begins_with first name ≡ true → begins_with second name ≡ false
    names name one = elim (begins_with second name) as (λ b. begins_with second name ≡ b → b ≡ false) [
      | true ↦ λ two. absurd (both name one two)
      | false ↦ λ two. refl
    ] refl

    out : (name : List ℕ) → begins_with second name ≡ true → begins_with first name ≡ false
    out name two = elim (begins_with first name) as (λ b. begins_with first name ≡ b → b ≡ false) [
      | true ↦ λ one. absurd (both name one two)
      | false ↦ λ one. refl
    ] refl

pub attempts_staged : AttemptsAreStaged
attempts_staged job unit attempt name begins =
    let more = rest_of (attempt_folder job unit attempt) name begins in
    subst (λ n. begins_with (staging job) n ≡ true) (sym (more.1 ∙ folder_parts job unit attempt more.0))
    (front_more (staging job) (decimal unit ++ 45 ∷ (decimal attempt ++ 47 ∷ more.0)))

-- ---- the folder's name may be given to a call

all_then : (xs ys : List ℕ) → list_all is_name_byte xs ≡ true → list_all is_name_byte ys ≡ true
    → list_all is_name_byte (xs ++ ys) ≡ true
all_then [] ys a b = b
all_then (x ∷ xs) ys a b =
    let p = and_parts (is_name_byte x) (list_all is_name_byte xs) a in
    and_from (is_name_byte x) (list_all is_name_byte (xs ++ ys)) p.0 (all_then xs ys p.1 b)

pub folder_named : (job : List ℕ) (unit attempt : ℕ) → unit < 2 ^ 32 → attempt < 2 ^ 32 → IsPathname job
    → IsPathname (attempt_folder job unit attempt)
folder_named job unit attempt u a named =
    let back : list_all is_name_byte (decimal attempt ++ 47 ∷ []) ≡ true =
    all_then (decimal attempt) (47 ∷ []) (numbered attempt a) refl in
    let whole : IsPathname (staging job ++ (decimal unit ++ 45 ∷ (decimal attempt ++ 47 ∷ []))) =
    name_before (staging job) (decimal unit ++ 45 ∷ (decimal attempt ++ 47 ∷ []))
    (name_before job (47 ∷ codes "stage/") named refl)
    (all_then (decimal unit) (45 ∷ (decimal attempt ++ 47 ∷ [])) (numbered unit u) back) in
    subst IsPathname (sym (folder_parts job unit attempt []) ∙ append-nil (attempt_folder job unit attempt)) whole
  where
    numbered : (n : ℕ) → n < 2 ^ 32 → list_all is_name_byte (decimal n) ≡ true
    numbered n small = digits_named (decimal n) (are_digits n (omega (arith, small)))
