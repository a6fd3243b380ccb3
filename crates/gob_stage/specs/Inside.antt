-- How an attempt keeps its files.
use Rattle.std.specs.Prelude.{◌≡◌, ℕ, true, List, ◌++◌, map}
use Rattle.std.specs.List.{list_all}
use Rattle.gob_bytes.specs.Tables.{Table, IsInByteOrder, names_of}
use Rattle.gob_device.specs.Names.{IsPathname, is_pathname}

-- targets in byte order, each with its name in the folder, and all of them names that a call may be given
pub record AreStagingTargets (folder : List ℕ) (files : Table (List ℕ)) : Type 0 where
  pub folder_named : IsPathname folder
  pub rising : IsInByteOrder (names_of files)
  pub staged : map (λ e. e.1) files ≡ map (λ e. folder ++ e.0) files
  pub targets_named : list_all is_pathname (names_of files) ≡ true
