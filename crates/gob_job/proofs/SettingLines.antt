-- The lines of a pipeline text, read one after the other.
use Rattle.std.proofs.Common.{◌≡◌, ℕ, true, false, nat_eq, ◌==◌, List, [], ◌∷◌, ◌++◌, length, map, Option}
use Rattle.std.proofs.Common.{Some, None, Bor, refl, sym, ap, ◌∙◌, append-nil, arith}
use Rattle.std.proofs.lemmas.Bool.{true≢false, eqb-true}
use Rattle.gob_jobs.specs.Words.{both, pieces}
use Rattle.gob_jobs.specs.Pipelines.{Setting, setting_of_pieces, settings_of_lines}
use Rattle.gob_jobs.proofs.Lines.{HasFirst, pieces_first}
use Rattle.gob_job.specs.Cuts.{pieces_left}
use Rattle.gob_job.specs.LookUps.{setting_from}
use Rattle.gob_job.specs.Loops.{behind}
use Rattle.gob_job.specs.declared.values.Setting.{Setting as SettingHeld}
use Rattle.gob_job.proofs.ItemLoops.{behind_step}

-- the text ends without a line
pub ends_bare : (done : List Setting) (text line : List ℕ) (rest : Option (Bor (List ℕ)))
    {whole : Option (List Setting)} → behind done (settings_of_lines (pieces (nat_eq 10) text)) ≡ whole
    → pieces (nat_eq 10) text ≡ line ∷ pieces_left (nat_eq 10) rest
    → rest ≡ None → (length line == 0) ≡ true → Some done ≡ whole
ends_bare done text [] rest so_far cut none empty =
    ap (λ d. Some d) (sym (append-nil done)) ∙ (sym
    (ap (λ ps. behind done (settings_of_lines ps)) (cut ∙ ap (λ o. [] ∷ pieces_left (nat_eq 10) o) none)) ∙ so_far)
ends_bare done text (b ∷ bs) rest so_far cut none empty = let zero : length (b ∷ bs) ≡ 0 =
    eqb-true (length (b ∷ bs)) 0 empty in absurd (omega arith)

-- or within one
pub ends_within : (done : List Setting) (text line : List ℕ) (rest : Option (Bor (List ℕ)))
    {whole : Option (List Setting)} → behind done (settings_of_lines (pieces (nat_eq 10) text)) ≡ whole
    → pieces (nat_eq 10) text ≡ line ∷ pieces_left (nat_eq 10) rest
    → rest ≡ None → (length line == 0) ≡ false → None ≡ whole
ends_within done text [] rest so_far cut none empty = absurd (true≢false empty)
ends_within done text (b ∷ bs) rest so_far cut none empty =
    sym (ap (λ ps. behind done (settings_of_lines ps)) (cut ∙ ap (λ o. (b ∷ bs) ∷ pieces_left (nat_eq 10) o) none))
    ∙ so_far

more : (line : List ℕ) (ps : List (List ℕ)) → HasFirst ps
    → settings_of_lines (line ∷ ps) ≡ both (λ s ss. s ∷ ss) (setting_of_pieces (pieces (nat_eq 61) line))
    (settings_of_lines ps)
more line [] first = let none : [] ≡ first.0 ∷ first.1 = first.2 in cc
more line (x ∷ xs) first = refl

-- a line at hand, and those after it
at_hand : (text line : List ℕ) (rest : Option (Bor (List ℕ))) (later : Bor (List ℕ))
    → pieces (nat_eq 10) text ≡ line ∷ pieces_left (nat_eq 10) rest → rest ≡ Some later
    → settings_of_lines (pieces (nat_eq 10) text) ≡ both (λ s ss. s ∷ ss) (setting_of_pieces (pieces (nat_eq 61) line))
    (settings_of_lines (pieces (nat_eq 10) later.now))
at_hand text line rest later cut is =
    ap settings_of_lines (cut ∙ ap (λ o. line ∷ pieces_left (nat_eq 10) o) is)
    ∙ more line (pieces (nat_eq 10) later.now) (pieces_first (nat_eq 10) later.now)

pub line_none : (done : List Setting) (text line : List ℕ) (rest : Option (Bor (List ℕ))) (later : Bor (List ℕ))
    {whole : Option (List Setting)} → behind done (settings_of_lines (pieces (nat_eq 10) text)) ≡ whole
    → pieces (nat_eq 10) text ≡ line ∷ pieces_left (nat_eq 10) rest → rest ≡ Some later
    → None ≡ setting_of_pieces (pieces (nat_eq 61) line) → None ≡ whole
line_none done text line rest later so_far cut is none =
    ap (λ o. behind done (both (λ s ss. s ∷ ss) o (settings_of_lines (pieces (nat_eq 10) later.now)))) none
    ∙ (sym (ap (behind done) (at_hand text line rest later cut is)) ∙ so_far)

mapped : (settings : List SettingHeld) (s : SettingHeld)
    → map setting_from (settings ++ s ∷ []) ≡ map setting_from settings ++ setting_from s ∷ []
mapped [] s = refl
mapped (t ∷ ts) s = ap (λ x. setting_from t ∷ x) (mapped ts s)

pub line_some : (settings more : List SettingHeld) (s : SettingHeld) (text line : List ℕ) (rest : Option (Bor (List ℕ)))
    (later : Bor (List ℕ)) {whole : Option (List Setting)}
    → behind (map setting_from settings) (settings_of_lines (pieces (nat_eq 10) text)) ≡ whole
    → pieces (nat_eq 10) text ≡ line ∷ pieces_left (nat_eq 10) rest → rest ≡ Some later
    → Some (setting_from s) ≡ setting_of_pieces (pieces (nat_eq 61) line) → more ≡ settings ++ s ∷ []
    → behind (map setting_from more) (settings_of_lines (pieces (nat_eq 10) later.now)) ≡ whole
line_some settings more s text line rest later so_far cut is some added =
    let left = settings_of_lines (pieces (nat_eq 10) later.now) in
    let done = map setting_from settings in
    ap (λ m. behind m left) (ap (map setting_from) added ∙ mapped settings s)
    ∙ (sym (behind_step done (setting_from s) left)
    ∙ (ap (λ o. behind done (both (λ t ss. t ∷ ss) o left)) some
    ∙ (sym (ap (behind done) (at_hand text line rest later cut is)) ∙ so_far)))
