-- What a planned failure and a crash leave of a file.
use Rattle.std.specs.Prelude.{ℕ, List, [], ◌++◌, option_map}
use Rattle.gob_device.specs.Disk.{File, clean, dirty, Files, put}

-- the file is dirty, with its bytes as they were
abbrev pub torn_file : File → File
torn_file (clean bytes) = dirty bytes []
torn_file (dirty kept loose) = dirty kept loose

-- the image in which these bytes stand behind the kept ones of a dirty file
abbrev pub image_of : List ℕ → File → File
image_of tail (clean bytes) = clean bytes
image_of tail (dirty kept loose) = clean (kept ++ tail)

unfoldable pub after_crash : List ℕ → Files → Files
after_crash tail m = λ name. option_map (image_of tail) (m name)

unfoldable pub after_tear : List ℕ → Files → Files
after_tear name m = put m name (option_map torn_file (m name))
