-- What a file's name in a sequence is to a call.
use Rattle.std.proofs.Common.{◌≡◌, ℕ, true, List, [], ◌∷◌, refl}
use Rattle.gob_device.specs.Names.{IsPathname}
use Rattle.gob_device.proofs.Names.{name_bytes}
use Rattle.gob_recovery.specs.Sequence.{is_file_name, is_sequence_byte}

pub file_pathname : (name : List ℕ) → is_file_name name ≡ true → IsPathname name
file_pathname [] e = e
file_pathname (b ∷ bs) e = name_bytes is_sequence_byte refl (b ∷ bs) e
