-- Texts that are cut at their last slash.
use Rattle.std.proofs.Common.{◌≡◌, ◌<◌, ℕ, List, ◌∷◌, ◌++◌, ◌∙◌, take, drop, ap, sym, lit<, Option, None, Some}
use Rattle.std.specs.Option.{MatchOption}
use Rattle.std.specs.Str.Pattern.{RFindsChar, SplitsAroundMatch}
use Rattle.std.proofs.lemmas.List.{take-append-drop}
use Rattle.std.proofs.lemmas.Str.Pattern.{NoCharPasses-char, drop_at_char}
use denote.Ref.{Bor}
use Rattle.gob_folders.specs.Names.{HasNoSlash, IsSplitAt}

-- what `rsplit_once` gives at a slash
pub split_at_slash : (text : List ℕ) (r : Option (Bor (List ℕ) × Bor (List ℕ)))
    → MatchOption r (RFindsChar 47 text None) (λ x. SplitsAroundMatch (RFindsChar 47) text x.0.now x.1.now)
    → MatchOption r (HasNoSlash text) (λ x. IsSplitAt text x.0.now x.1.now)
split_at_slash text None none = λ i short. NoCharPasses-char 47 text i none (lit< tt) short
split_at_slash text (Some x) found = (
  whole,
  λ i short. rw found.4
      (NoCharPasses-char 47 (drop found.1 text) i found.2.0 (lit< tt) (rw found.4 at short)),
)
  where
    whole : text ≡ x.0.now ++ 47 ∷ x.1.now
    whole = rw found.3 (rw found.4 (sym (take-append-drop found.0 text)
        ∙ ap (λ rest. take found.0 text ++ rest) (drop_at_char 47 text found.0 found.1 found.2.1 (lit< tt))))
