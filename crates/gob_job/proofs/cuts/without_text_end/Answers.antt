use Rattle.std.proofs.Common.{refl, rules, sym, ◌∙◌, arith}
use Rattle.std.proofs.lemmas.Str.Pattern.{strip_suffix_char}
use Rattle.gob_job.proofs.Trims.{end_kept, end_stripped}
use Rattle.gob_job.proofs.cuts.without_text_end.Goals as goal

pub loop-rest-preserved-in-Some : goal.loop-rest-preserved-in-Some
loop-rest-preserved-in-Some c = (
  search rules,
  sym (end_stripped 32 _ _ refl (rw c.in-Some.is at (strip_suffix_char 32 _ c.strip_suffix.result
      c.strip_suffix.ensures.cases (omega arith)))) ∙ c.loop-rest.invariant.1,
)

pub loop-rest-preserved : goal.loop-rest-preserved
loop-rest-preserved c = (
  search rules,
  sym (end_stripped 9 _ _ refl (rw c.in-Some-strip_suffix.is at
      (strip_suffix_char 9 _ c.strip_suffix-in_default.result c.strip_suffix-in_default.ensures.cases (omega arith))))
      ∙ c.loop-rest.invariant.1,
)

pub returns-in_default-strip_suffix : goal.returns-in_default-strip_suffix
returns-in_default-strip_suffix c =
    sym (end_kept _
    (rw c.in_default.is at (strip_suffix_char 32 _ c.strip_suffix.result c.strip_suffix.ensures.cases (omega arith)))
    (rw c.in_default-strip_suffix.is at (strip_suffix_char 9 _ c.strip_suffix-in_default.result
    c.strip_suffix-in_default.ensures.cases (omega arith))))
    ∙ c.loop-rest.invariant.1
