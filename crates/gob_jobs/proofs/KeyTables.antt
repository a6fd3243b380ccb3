-- The tables of keys, computed.
use Rattle.std.proofs.Common.{refl}
use Rattle.gob_jobs.specs.TablesOfKeys.{KeyTables, PlainFile, FullFile, FirstFaults, MissingKeys, EmptyValues}
use Rattle.gob_jobs.specs.TablesOfKeys.{NumberRanges, NoNumbers, Words, LongLists, ManyColumns, Policies, BranchKeys}
use Rattle.gob_jobs.specs.TablesOfKeys.{Interpolations, UnknownKeys}
use Rattle.gob_jobs.proofs.OnLiterals.{on_literals}

plain_file_are : PlainFile
unfolding on_literals
plain_file_are = refl

full_file_are : FullFile
unfolding on_literals
full_file_are = refl

first_faults_are : FirstFaults
unfolding on_literals
first_faults_are = refl

missing_keys_are : MissingKeys
unfolding on_literals
missing_keys_are = refl

empty_values_are : EmptyValues
unfolding on_literals
empty_values_are = refl

ranges_are : NumberRanges
unfolding on_literals
ranges_are = refl

no_numbers_are : NoNumbers
unfolding on_literals
no_numbers_are = refl

words_are : Words
unfolding on_literals
words_are = refl

long_lists_are : LongLists
unfolding on_literals
long_lists_are = refl

many_columns_are : ManyColumns
unfolding on_literals
many_columns_are = refl

policies_are : Policies
unfolding on_literals
policies_are = refl

branch_keys_are : BranchKeys
unfolding on_literals
branch_keys_are = refl

interpolations_are : Interpolations
unfolding on_literals
interpolations_are = refl

unknown_keys_are : UnknownKeys
unfolding on_literals
unknown_keys_are = refl

pub key_tables : KeyTables
key_tables = record {
  plain_file = plain_file_are;
  full_file = full_file_are;
  first_faults = first_faults_are;
  missing_keys = missing_keys_are;
  empty_values = empty_values_are;
  ranges = ranges_are;
  no_numbers = no_numbers_are;
  words = words_are;
  long_lists = long_lists_are;
  many_columns = many_columns_are;
  policies = policies_are;
  branch_keys = branch_keys_are;
  interpolations = interpolations_are;
  unknown_keys = unknown_keys_are;
}
