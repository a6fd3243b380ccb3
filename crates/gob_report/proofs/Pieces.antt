-- Lines and lists of lines, pushed piece by piece.
use Rattle.std.proofs.Common.{◌≡◌, ℕ, ◌+◌, ◌<◌, Bool, List, [], ◌∷◌, ◌++◌, map, length, drop, get_or, refl, sym, ap}
use Rattle.std.proofs.Common.{◌∙◌}
use Rattle.std.proofs.Common.{append_assoc}
use Rattle.std.specs.List.{flat_map, zip}
use Rattle.gob_bytes.specs.Words.{words}
use Rattle.gob_plan.specs.declared.units.Unit.{Unit as WorkUnit}
use Rattle.gob_plan.specs.declared.units.UnitResult.{UnitResult}
use Rattle.gob_state.specs.Committed.{judged_by, verdict_in}
use Rattle.gob_state.proofs.SettingLemmas.{at_drop}
use Rattle.gob_texts.specs.Report.{unit_lines, units_lines}
use Rattle.gob_report.specs.declared.lines.Word.{Word}
use Rattle.gob_report.specs.Lines.{spaced_words, word_text}

-- ---- lines

line_of : (first : List ℕ) (ws : List Word) → words first (map word_text ws) ≡ first ++ (spaced_words ws ++ 10 ∷ [])
line_of first [] = refl
line_of first (w ∷ ws) = ap (λ t. first ++ 32 ∷ t) (line_of (word_text w) ws)
    ∙ ap (λ t. first ++ 32 ∷ t) (sym (append_assoc (word_text w) (spaced_words ws) (10 ∷ [])))

long_line_of : (first : List ℕ) (vs ws : List Word)
    → words first (map word_text vs ++ map word_text ws) ≡ first ++ (spaced_words vs ++ (spaced_words ws ++ 10 ∷ []))
long_line_of first [] ws = line_of first ws
long_line_of first (v ∷ vs) ws = ap (λ t. first ++ 32 ∷ t) (long_line_of (word_text v) vs ws)
    ∙ ap (λ t. first ++ 32 ∷ t) (sym (append_assoc (word_text v) (spaced_words vs) (spaced_words ws ++ 10 ∷ [])))

pub line_pushed : (old a b new first : List ℕ) (ws : List Word) → a ≡ old ++ first → b ≡ a ++ spaced_words ws
    → new ≡ b ++ 10 ∷ [] → new ≡ old ++ words first (map word_text ws)
line_pushed old a b new first ws pa pb pc =
    pc ∙ ap (λ t. t ++ 10 ∷ []) (pb ∙ ap (λ t. t ++ spaced_words ws) pa) ∙ regrouped old first (spaced_words ws)
    (10 ∷ [])
    ∙ ap (λ t. old ++ t) (sym (line_of first ws))
  where
    regrouped : (o f w n : List ℕ) → ((o ++ f) ++ w) ++ n ≡ o ++ (f ++ (w ++ n))
    regrouped o f w n = simp append_assoc

pub long_line_pushed : (old a b c new first : List ℕ) (vs ws : List Word) → a ≡ old ++ first → b ≡ a ++ spaced_words vs
    → c ≡ b ++ spaced_words ws → new ≡ c ++ 10 ∷ [] → new ≡ old ++ words first (map word_text vs ++ map word_text ws)
long_line_pushed old a b c new first vs ws pa pb pc pd =
    pd ∙ ap (λ t. t ++ 10 ∷ []) (pc ∙ ap (λ t. t ++ spaced_words ws) (pb ∙ ap (λ t. t ++ spaced_words vs) pa))
    ∙ regrouped old first (spaced_words vs) (spaced_words ws) (10 ∷ []) ∙ ap (λ t. old ++ t)
    (sym (long_line_of first vs ws))
  where
    regrouped : (o f v w n : List ℕ) → (((o ++ f) ++ v) ++ w) ++ n ≡ o ++ (f ++ (v ++ (w ++ n)))
    regrouped o f v w n = simp append_assoc

-- ---- units

-- one unit more
pub unit_more : (old a b : List ℕ) (us : List WorkUnit) (rs : List UnitResult) (cs : List Bool) (i : ℕ)
    (u : WorkUnit) (r : UnitResult) (k : Bool) → i < length us → i < length rs → i < length cs
    → u ≡ get_or us i u → r ≡ get_or rs i r → k ≡ get_or cs i k
    → a ++ units_lines (judged_by (drop i us) (drop i rs)) (drop i cs) ≡ old ++ units_lines (judged_by us rs) cs
    → b ≡ a ++ unit_lines k u (verdict_in r)
    → b ++ units_lines (judged_by (drop (i + 1) us) (drop (i + 1) rs)) (drop (i + 1) cs)
    ≡ old ++ units_lines (judged_by us rs) cs
unit_more old a b us rs cs i u r k bu br bc iu ir ik inv more =
    let later : List ℕ = units_lines (judged_by (drop (i + 1) us) (drop (i + 1) rs)) (drop (i + 1) cs) in
    ap (λ t. t ++ later) more ∙ append_assoc a (unit_lines k u (verdict_in r)) later
    ∙ (λ j. a ++ units_lines (judged_by (sym (at_drop us i u bu iu) j) (sym (at_drop rs i r br ir) j))
    (sym (at_drop cs i k bc ik) j))
    ∙ inv
