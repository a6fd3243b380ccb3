-- Line ends found window by window.
use Rattle.std.proofs.Common.{◌≡◌, ℕ, ◌+◌, ◌-◌, ◌^◌, ◌<◌, ◌≤◌, List, [], ◌++◌, length, take, drop, min, Some, None}
use Rattle.std.proofs.Common.{option_map, IfSome, refl, sym, ap, subst, ◌∙◌, arith}
use Rattle.std.specs.declared.option.Option.{Option}
use Rattle.std.specs.List.{last_or, slice_get}
use Rattle.std.proofs.lemmas.List.{drop-drop, length-drop, length-take-le, length-take, nil_from_length}
use Rattle.std.proofs.lemmas.List.{take-append-drop}
use Rattle.std.proofs.Math.Seq.{take-add}
use Rattle.gob_bytes.specs.Lines.{first_end, last_end, line_ends}
use Rattle.gob_device.specs.Supply.{Fills, Supply, bytes_at, bytes_from, seen_by_look}
use Rattle.gob_device.proofs.Looks.{length-looked}
use Rattle.gob_ledger.specs.Units.{cut_end}
use Rattle.gob_cut.specs.Ends.{first_behind, last_between}
use Rattle.gob_cut.proofs.Places.{cut_is, either_end, ends_are, ends_looked, first-append, last-append}

-- ---- one look

pub last_told : (o : Option Supply) (part : List ℕ) (at len n : ℕ) (buffer : List ℕ) (end : Option ℕ)
    → IfSome o (λ s. Fills buffer n (seen_by_look (bytes_from s.held part at len)))
    → end ≡ last_end (take n buffer) → IfSome o (λ s. end ≡ last_end (bytes_from s.held part at len))
last_told None part at len n buffer end fills is = tt
last_told (Some s) part at len n buffer end fills is = is ∙ (ap last_end fills.front
    ∙ ap last_of (ends_looked (bytes_from s.held part at len)))
  where
    last_of : List ℕ → Option ℕ
    last_of es = last_or None es

pub first_told : (o : Option Supply) (part : List ℕ) (at len n : ℕ) (buffer : List ℕ) (end : Option ℕ)
    → IfSome o (λ s. Fills buffer n (seen_by_look (bytes_from s.held part at len)))
    → end ≡ first_end (take n buffer) → IfSome o (λ s. end ≡ first_end (bytes_from s.held part at len))
first_told None part at len n buffer end fills is = tt
first_told (Some s) part at len n buffer end fills is = is ∙ (ap first_end fills.front
    ∙ ap (λ es. slice_get es 0) (ends_looked (bytes_from s.held part at len)))

pub count_told : (o : Option Supply) (part : List ℕ) (at len n : ℕ) (buffer : List ℕ)
    → IfSome o (λ s. Fills buffer n (seen_by_look (bytes_from s.held part at len)))
    → IfSome o (λ s. n ≡ length (bytes_from s.held part at len))
count_told None part at len n buffer fills = tt
count_told (Some s) part at len n buffer fills = fills.number ∙ length-looked (bytes_from s.held part at len)

-- ---- windows from the end on

-- the last line end up to hi is the last one up to end
abbrev pub LastUpTo : Option Supply → List ℕ → ℕ → ℕ → ℕ → Type 0
LastUpTo o part lo hi end = IfSome o (λ s. hi ≤ length (bytes_at s.held part)
    → last_between (bytes_at s.held part) lo hi ≡ last_between (bytes_at s.held part) lo end)

-- what a window told
abbrev pub SawLast : Option Supply → List ℕ → ℕ → ℕ → Option ℕ → Type 0
SawLast o part at len end = IfSome o (λ s. end ≡ last_end (bytes_from s.held part at len))

window_last : (bytes : List ℕ) (lo start len end : ℕ) → lo ≤ start → start + len ≡ end → end ≤ length bytes
    → last_between bytes lo end ≡ either_end (option_map (λ e. start + e) (last_end (take len (drop start bytes))))
    (last_between bytes lo start)
window_last bytes lo start len end low at inside =
    let d : List ℕ = drop lo bytes in
    let x : List ℕ = take (start - lo) d in
    let w : List ℕ = take len (drop start bytes) in
    let long : length x ≡ start - lo = length-take-le (start - lo) d (omega (arith, length-drop lo bytes)) in
    let same : drop (start - lo) d ≡ drop start bytes = drop-drop (start - lo) lo bytes
    ∙ ap (λ n. drop n bytes) (let s : lo + (start - lo) ≡ start = omega arith in s) in
    let whole : take (end - lo) d ≡ x ++ w =
    ap (λ n. take n d) (let s : end - lo ≡ (start - lo) + len = omega arith in s)
    ∙ (take-add (start - lo) len d ∙ ap (λ t. x ++ take len t) same) in
    ap (option_map (λ e. lo + e)) (ap last_end whole ∙ last-append x w)
    ∙ placed (last_end w) (last_end x) (length x) long
  where
    placed : (o p : Option ℕ) (n : ℕ) → n ≡ start - lo → option_map (λ e. lo + e)
        (either_end (option_map (λ e. n + e) o) p) ≡ either_end (option_map (λ e. start + e) o)
        (option_map (λ e. lo + e) p)
    placed None p n is = refl
    placed (Some e) p n is = ap Some (omega arith)

pub last_found : (o q : Option Supply) (part : List ℕ) (lo hi start len room end at : ℕ) (seen : Option ℕ) → q ≡ o
    → LastUpTo o part lo hi end → SawLast q part start room seen → seen ≡ Some at
    → room ≡ len → lo ≤ start → start + len ≡ end → end ≤ hi → IfSome o
    (λ s. hi ≤ length (bytes_at s.held part) → Some (start + at) ≡ last_between (bytes_at s.held part) lo hi)
unfolding bytes_from
last_found o q part lo hi start len room end at seen told before saw some long low place fits =
    cases o before (subst (λ r. SawLast r part start room seen) told saw)
  where
    cases : (o : Option Supply) → LastUpTo o part lo hi end → SawLast o part start room seen
        → IfSome o (λ s. hi ≤ length (bytes_at s.held part) → Some (start + at) ≡ last_between (bytes_at s.held part) lo
        hi)
    cases None before saw = tt
    cases (Some s) before saw = λ inside.
        let bytes : List ℕ = bytes_at s.held part in
        let here : last_end (take len (drop start bytes)) ≡ Some at =
        ap (λ n. last_end (take n (drop start bytes))) (sym long) ∙ (sym saw ∙ some) in
        sym (before inside ∙ (window_last bytes lo start len end low place (omega (arith, fits, inside))
        ∙ ap (λ e. either_end (option_map (λ n. start + n) e) (last_between bytes lo start)) here))

pub last_passed : (o q : Option Supply) (part : List ℕ) (lo hi start len room end : ℕ) (seen : Option ℕ) → q ≡ o
    → LastUpTo o part lo hi end → SawLast q part start room seen → seen ≡ None
    → room ≡ len → lo ≤ start → start + len ≡ end → end ≤ hi → LastUpTo o part lo hi start
unfolding bytes_from
last_passed o q part lo hi start len room end seen told before saw none long low place fits =
    cases o before (subst (λ r. SawLast r part start room seen) told saw)
  where
    cases : (o : Option Supply) → LastUpTo o part lo hi end → SawLast o part start room seen
        → LastUpTo o part lo hi start
    cases None before saw = tt
    cases (Some s) before saw = λ inside.
        let bytes : List ℕ = bytes_at s.held part in
        let here : last_end (take len (drop start bytes)) ≡ None =
        ap (λ n. last_end (take n (drop start bytes))) (sym long) ∙ (sym saw ∙ none) in
        before inside ∙ (window_last bytes lo start len end low place (omega (arith, fits, inside))
        ∙ ap (λ e. either_end (option_map (λ n. start + n) e) (last_between bytes lo start)) here)

pub last_none : (o : Option Supply) (part : List ℕ) (lo hi end : ℕ) → LastUpTo o part lo hi end → end ≤ lo
    → IfSome o (λ s. hi ≤ length (bytes_at s.held part) → None ≡ last_between (bytes_at s.held part) lo hi)
last_none None part lo hi end before past = tt
last_none (Some s) part lo hi end before past = λ inside.
    let bytes : List ℕ = bytes_at s.held part in
    let none : take (end - lo) (drop lo bytes) ≡ [] = nil_from_length (take (end - lo) (drop lo bytes))
    (omega (arith, length-take (end - lo) (drop lo bytes))) in
    sym (before inside ∙ ap (λ t. option_map (λ e. lo + e) (last_end t)) none ∙ no_line)
  where
    no_line : option_map (λ e. lo + e) (last_end []) ≡ None
    no_line = ap (λ es. option_map (λ e. lo + e) (last_or None es)) (ends_are [])

-- ---- windows from the front on

abbrev pub FirstFrom : Option Supply → List ℕ → ℕ → ℕ → ℕ → Type 0
FirstFrom o part size lo at = IfSome o (λ s. size ≡ length (bytes_at s.held part)
    → first_behind (bytes_at s.held part) lo ≡ first_behind (bytes_at s.held part) at)

abbrev pub SawFirst : Option Supply → List ℕ → ℕ → ℕ → Option ℕ → Type 0
SawFirst o part at len end = IfSome o (λ s. end ≡ first_end (bytes_from s.held part at len))

abbrev pub SawMany : Option Supply → List ℕ → ℕ → ℕ → ℕ → Type 0
SawMany o part at len n = IfSome o (λ s. n ≡ length (bytes_from s.held part at len))

window_first : (bytes : List ℕ) (at len : ℕ) → at + len ≤ length bytes
    → first_behind bytes at ≡ either_end (option_map (λ e. at + e) (first_end (take len (drop at bytes))))
    (first_behind bytes (at + len))
window_first bytes at len inside =
    let w : List ℕ = take len (drop at bytes) in
    let z : List ℕ = drop (at + len) bytes in
    let long : length w ≡ len = length-take-le len (drop at bytes) (omega (arith, length-drop at bytes)) in
    let whole : drop at bytes ≡ w ++ z = sym (take-append-drop len (drop at bytes))
    ∙ ap (λ t. w ++ t) (drop-drop len at bytes) in
    ap (option_map (λ e. at + e)) (ap first_end whole ∙ first-append w z)
    ∙ placed (first_end w) (first_end z) (length w) long
  where
    placed : (o p : Option ℕ) (n : ℕ) → n ≡ len → option_map (λ e. at + e) (either_end o (option_map (λ e. n + e) p)) ≡
        either_end (option_map (λ e. at + e) o) (option_map (λ e. at + len + e) p)
    placed (Some e) p n is = refl
    placed None None n is = refl
    placed None (Some e) n is = ap Some (omega arith)

pub first_found : (o q : Option Supply) (part : List ℕ) (size lo at len room e : ℕ) (seen : Option ℕ) → q ≡ o
    → FirstFrom o part size lo at → SawFirst q part at room seen → seen ≡ Some e
    → room ≡ len → at + len ≤ size → IfSome o (λ s. size ≡ length (bytes_at s.held part)
    → Some (at + e) ≡ first_behind (bytes_at s.held part) lo)
unfolding bytes_from
first_found o q part size lo at len room e seen told before saw some long fits =
    cases o before (subst (λ r. SawFirst r part at room seen) told saw)
  where
    cases : (o : Option Supply) → FirstFrom o part size lo at → SawFirst o part at room seen
        → IfSome o (λ s. size ≡ length (bytes_at s.held part) → Some (at + e) ≡ first_behind (bytes_at s.held part) lo)
    cases None before saw = tt
    cases (Some s) before saw = λ is.
        let bytes : List ℕ = bytes_at s.held part in
        let here : first_end (take len (drop at bytes)) ≡ Some e =
        ap (λ n. first_end (take n (drop at bytes))) (sym long) ∙ (sym saw ∙ some) in
        sym (before is ∙ (window_first bytes at len (omega (arith, fits, is))
        ∙ ap (λ x. either_end (option_map (λ n. at + n) x) (first_behind bytes (at + len))) here))

pub first_passed : (o q : Option Supply) (part : List ℕ) (size lo at len room : ℕ) (seen : Option ℕ) → q ≡ o
    → FirstFrom o part size lo at → SawFirst q part at room seen → seen ≡ None
    → room ≡ len → at + len ≤ size → FirstFrom o part size lo (at + len)
unfolding bytes_from
first_passed o q part size lo at len room seen told before saw none long fits =
    cases o before (subst (λ r. SawFirst r part at room seen) told saw)
  where
    cases : (o : Option Supply) → FirstFrom o part size lo at → SawFirst o part at room seen
        → FirstFrom o part size lo (at + len)
    cases None before saw = tt
    cases (Some s) before saw = λ is.
        let bytes : List ℕ = bytes_at s.held part in
        let here : first_end (take len (drop at bytes)) ≡ None = ap (λ n. first_end (take n (drop at bytes))) (sym long)
        ∙ (sym saw ∙ none) in
        before is ∙ (window_first bytes at len (omega (arith, fits, is))
        ∙ ap (λ x. either_end (option_map (λ n. at + n) x) (first_behind bytes (at + len))) here)

-- a look that gives too little, in a partition that isn't as long as it was listed
pub first_short : (o q : Option Supply) (part : List ℕ) (size lo at len room n : ℕ) → q ≡ o → SawMany q part at room n
    → n < len → room ≡ len → at + len ≤ size
    → IfSome o (λ s. size ≡ length (bytes_at s.held part) → None ≡ first_behind (bytes_at s.held part) lo)
unfolding bytes_from
first_short o q part size lo at len room n told saw short long fits =
    cases o (subst (λ r. SawMany r part at room n) told saw)
  where
    cases : (o : Option Supply) → SawMany o part at room n → IfSome o
        (λ s. size ≡ length (bytes_at s.held part) → None ≡ first_behind (bytes_at s.held part) lo)
    cases None saw = tt
    cases (Some s) saw = λ is.
        let bytes : List ℕ = bytes_at s.held part in
        let all : length (take len (drop at bytes)) ≡ len = length-take-le len (drop at bytes)
        (omega (arith, length-drop at bytes, fits, is)) in
        let seen : n ≡ length (take len (drop at bytes)) = saw ∙ ap (λ k. length (take k (drop at bytes))) long in
        absurd (omega (arith, short, all, seen))

pub first_none : (o : Option Supply) (part : List ℕ) (size lo at : ℕ) → FirstFrom o part size lo at → size ≤ at
    → IfSome o (λ s. size ≡ length (bytes_at s.held part) → None ≡ first_behind (bytes_at s.held part) lo)
first_none None part size lo at before past = tt
first_none (Some s) part size lo at before past = λ is.
    let bytes : List ℕ = bytes_at s.held part in
    let none : drop at bytes ≡ [] = nil_from_length (drop at bytes) (omega (arith, length-drop at bytes, past, is)) in
    sym (before is ∙ (ap (λ t. option_map (λ e. at + e) (first_end t)) none ∙ no_line))
  where
    no_line : option_map (λ e. at + e) (first_end []) ≡ None
    no_line = ap (λ es. option_map (λ e. at + e) (slice_get es 0)) (ends_are [])

-- ---- both

pub end_is : (o p q : Option Supply) (part : List ℕ) (size lo max limit : ℕ) (last first : Option ℕ) → p ≡ o → q ≡ o
    → lo ≤ size → limit ≡ min (lo + max) size
    → IfSome o (λ s. limit ≤ length (bytes_at s.held part) → last ≡ last_between (bytes_at s.held part) lo limit)
    → IfSome p (λ s. size ≡ length (bytes_at s.held part) → first ≡ first_behind (bytes_at s.held part) limit)
    → IfSome o (λ s. size ≡ length (bytes_at s.held part) → either_end last first ≡ cut_end
    (line_ends (bytes_at s.held part)) lo max)
end_is o p q part size lo max limit last first told again inside is a b =
    cases o a (subst (λ r. IfSome r (λ s. size ≡ length (bytes_at s.held part)
    → first ≡ first_behind (bytes_at s.held part) limit)) told b)
  where
    cases : (o : Option Supply) → IfSome o (λ s. limit ≤ length (bytes_at s.held part)
        → last ≡ last_between (bytes_at s.held part) lo limit)
        → IfSome o (λ s. size ≡ length (bytes_at s.held part) → first ≡ first_behind (bytes_at s.held part) limit)
        → IfSome o (λ s. size ≡ length (bytes_at s.held part)
        → either_end last first ≡ cut_end (line_ends (bytes_at s.held part)) lo max)
    cases None a b = tt
    cases (Some s) a b = λ long.
        let bytes : List ℕ = bytes_at s.held part in
        (λ i. either_end (a (omega (arith, is, long)) i) (b long i))
        ∙ sym (cut_is bytes lo max limit (omega (arith, inside, long)) (is ∙ ap (λ n. min (lo + max) n) long))

-- a last end that is found needs no first one
pub last_is_end : (o : Option Supply) (part : List ℕ) (size lo max limit e : ℕ) → lo ≤ size
    → limit ≡ min (lo + max) size
    → IfSome o (λ s. limit ≤ length (bytes_at s.held part) → Some e ≡ last_between (bytes_at s.held part) lo limit)
    → IfSome o (λ s. size ≡ length (bytes_at s.held part) → Some e ≡ cut_end (line_ends (bytes_at s.held part)) lo max)
last_is_end None part size lo max limit e inside is a = tt
last_is_end (Some s) part size lo max limit e inside is a = λ long.
    let bytes : List ℕ = bytes_at s.held part in
    ap (λ o. either_end o (first_behind bytes limit)) (a (omega (arith, is, long)))
    ∙ sym (cut_is bytes lo max limit (omega (arith, inside, long)) (is ∙ ap (λ n. min (lo + max) n) long))

pub first_is_end : (o p : Option Supply) (part : List ℕ) (size lo max limit : ℕ) (first : Option ℕ) → p ≡ o → lo ≤ size
    → limit ≡ min (lo + max) size
    → IfSome o (λ s. limit ≤ length (bytes_at s.held part) → None ≡ last_between (bytes_at s.held part) lo limit)
    → IfSome p (λ s. size ≡ length (bytes_at s.held part) → first ≡ first_behind (bytes_at s.held part) limit)
    → IfSome o (λ s. size ≡ length (bytes_at s.held part) → first ≡ cut_end (line_ends (bytes_at s.held part)) lo max)
first_is_end o p part size lo max limit first told inside is a b =
    end_is o p p part size lo max limit None first told told inside is a b

-- a limit that doesn't wrap
pub limit_is : (lo max size sum : ℕ) → sum ≡ min (lo + max) (2 ^ 64 - 1) → size < 2 ^ 64
    → min sum size ≡ min (lo + max) size
limit_is lo max size sum is fits = omega arith
