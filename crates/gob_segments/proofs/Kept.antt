-- Lists that are gone over place by place, and texts that are pushed piece by piece.
use Rattle.std.proofs.Common.{◌≡◌, ℕ, suc, ◌+◌, ◌<◌, ◌≤◌, Bool, true, false, cond, List, [], ◌∷◌, ◌++◌, codes, length}
use Rattle.std.proofs.Common.{drop, get_or, sym, ap, ◌∙◌, append_assoc, append-nil, add-one}
use Rattle.std.specs.List.{filter}
use Rattle.std.proofs.Math.Seq.{drop-cons}
use Rattle.gob_bytes.specs.Words.{numbered_line}
use Rattle.gob_ledger.specs.State.{State}
use Rattle.gob_ledger.specs.Spelling.{pipelines_text, totals_text, version_2}
use Rattle.gob_ledger.specs.Delta.{delta_spelling}
use Rattle.gob_state.proofs.WriteLemmas.{dropped_all}
use Rattle.gob_segments.specs.Written.{changed_texts}
use Rattle.gob_segments.proofs.Changed.{changed_texts-is}

next_of : {X : Type 0} (xs : List X) (i : ℕ) (x : X) → i < length xs → x ≡ get_or xs i x
    → drop i xs ≡ x ∷ drop (i + 1) xs
next_of {X} xs i x below is = drop-cons xs i x below ∙ ap (λ (y : X). y ∷ drop (suc i) xs) (sym is)
    ∙ ap (λ n. x ∷ drop n xs) (sym (add-one i))

-- an item that passes is kept, and another one isn't
pub kept_more : {X : Type 0} (p : X → Bool) (kept xs all : List X) (i : ℕ) (x : X) → i < length xs → x ≡ get_or xs i x
    → p x ≡ true
    → kept ++ filter p (drop i xs) ≡ all → (kept ++ x ∷ []) ++ filter p (drop (i + 1) xs) ≡ all
kept_more {X} p kept xs all i x below is passes inv =
    append_assoc kept (x ∷ []) (filter p (drop (i + 1) xs))
    ∙ ap (λ (ys : List X). kept ++ ys)
    (sym (ap (filter p) (next_of xs i x below is)
    ∙ ap (λ b. cond b (x ∷ filter p (drop (i + 1) xs)) (filter p (drop (i + 1) xs))) passes))
    ∙ inv

pub kept_same : {X : Type 0} (p : X → Bool) (kept xs all : List X) (i : ℕ) (x : X) → i < length xs → x ≡ get_or xs i x
    → p x ≡ false
    → kept ++ filter p (drop i xs) ≡ all → kept ++ filter p (drop (i + 1) xs) ≡ all
kept_same {X} p kept xs all i x below is fails inv =
    ap (λ (ys : List X). kept ++ ys)
    (sym (ap (filter p) (next_of xs i x below is)
    ∙ ap (λ b. cond b (x ∷ filter p (drop (i + 1) xs)) (filter p (drop (i + 1) xs))) fails))
    ∙ inv

pub kept_all : {X : Type 0} (p : X → Bool) (kept xs all : List X) (i : ℕ) → length xs ≤ i
    → kept ++ filter p (drop i xs) ≡ all → kept ≡ all
kept_all {X} p kept xs all i past inv =
    sym (append-nil kept) ∙ ap (λ (ys : List X). kept ++ filter p ys) (sym (dropped_all xs i past)) ∙ inv

-- the whole text of a change
pub delta_written : (s t : State) (a b c d e f g : List ℕ) → a ≡ [] → b ≡ a ++ numbered_line (codes "gobblin-delta")
    (2 ∷ [])
    → c ≡ b ++ numbered_line (codes "run") (t.run ∷ [])
    → d ≡ c ++ pipelines_text version_2 (drop (length s.pipelines) t.pipelines)
    → e ≡ d ++ totals_text t.totals → f ≡ e ++ changed_texts s.parts t.parts → g ≡ f ++ (codes "end" ++ 10 ∷ [])
    → g ≡ delta_spelling version_2 s t
unfolding delta_spelling
delta_written s t a b c d e f g ra rb rc rd re rf rg =
    let first : List ℕ = numbered_line (codes "gobblin-delta") (2 ∷ []) in
    let run : List ℕ = numbered_line (codes "run") (t.run ∷ []) in
    let pipelines : List ℕ = pipelines_text version_2 (drop (length s.pipelines) t.pipelines) in
    let parts : List ℕ = changed_texts s.parts t.parts in
    rg ∙ ap (λ x. x ++ (codes "end" ++ 10 ∷ [])) (rf ∙ ap (λ x. x ++ parts) (re
    ∙ ap (λ x. x ++ totals_text t.totals) (rd ∙ ap (λ x. x ++ pipelines) (rc
    ∙ ap (λ x. x ++ run) (rb ∙ ap (λ x. x ++ first) ra)))))
    ∙ regrouped first run pipelines (totals_text t.totals) parts (codes "end") (10 ∷ [])
    ∙ ap (λ x. (((first ++ run) ++ ((pipelines ++ totals_text t.totals) ++ x)) ++ codes "end") ++ 10 ∷ [])
    (sym (changed_texts-is s t.parts))
  where
    regrouped : (x r p t q e n : List ℕ) → ((((x ++ r) ++ p) ++ t) ++ q) ++ (e ++ n)
        ≡ (((x ++ r) ++ ((p ++ t) ++ q)) ++ e) ++ n
    regrouped x r p t q e n = simp append_assoc
