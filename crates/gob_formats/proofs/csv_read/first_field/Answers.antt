use Rattle.std.proofs.Common.{[], ◌∷◌, ℕ, List, ◌∙◌, sym, ap₂, arith}
use Rattle.gob_formats.specs.Splits.{comma_fields}
use Rattle.gob_formats.proofs.Plain.{cut_none, cut_at, plus_one}
use Rattle.gob_formats.proofs.csv_read.first_field.Goals as goal

pub returns-in-None : goal.returns-in-None
returns-in-None c = cut_none [] c.args.text.now (λ k lt. c.in-None.ensures k (omega arith) lt)

pub returns-in-Some : goal.returns-in-Some
returns-in-Some c =
    let found = c.in-Some.ensures in
    cut_at [] c.args.text.now c.in-Some.at found.0.high (λ k less. found.0.before k (omega arith) less) found.1
    ∙ ap₂ (λ (f r : List ℕ). f ∷ comma_fields [] r) (sym c.split_at.ensures.front)
    (sym (c.split_at-in-Some.ensures.back ∙ plus_one c.in-Some.at c.args.text.now))
