-- The tables of pipeline texts, computed.
use Rattle.std.proofs.Common.{refl}
use Rattle.gob_jobs.specs.TablesOfPlans.{PlanTables, PipelineLines, PlainText, FullText, PlansTold, PlansMissing}
use Rattle.gob_jobs.specs.TablesOfPlans.{RefusedFiles, MalformedFile, HeaderFile, WebTier, WebTierUnknown, Scores}
use Rattle.gob_jobs.proofs.OnLiterals.{on_literals}

lines_are : PipelineLines
unfolding on_literals
lines_are = refl

pub plain_text_are : PlainText
unfolding on_literals
plain_text_are = refl

full_text_are : FullText
unfolding on_literals
full_text_are = refl

told_are : PlansTold
unfolding on_literals
told_are = refl

missing_are : PlansMissing
unfolding on_literals
missing_are = refl

refused_files_are : RefusedFiles
unfolding on_literals
refused_files_are = refl

malformed_file_are : MalformedFile
unfolding on_literals
malformed_file_are = refl

header_are : HeaderFile
unfolding on_literals
header_are = refl

web_tier_are : WebTier
unfolding on_literals
web_tier_are = refl

web_tier_unknown_are : WebTierUnknown
unfolding on_literals
web_tier_unknown_are = refl

scores_are : Scores
unfolding on_literals
scores_are = refl

pub plan_tables : PlanTables
plan_tables = record {
  lines = lines_are;
  plain_text = plain_text_are;
  full_text = full_text_are;
  told = told_are;
  missing = missing_are;
  refused_files = refused_files_are;
  malformed_file = malformed_file_are;
  header = header_are;
  web_tier = web_tier_are;
  web_tier_unknown = web_tier_unknown_are;
  scores = scores_are;
}
