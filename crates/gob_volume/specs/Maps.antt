-- What the files of a volume in memory are, as a map.
use Rattle.gob_bytes.specs.Tables.{at_name}
use Rattle.gob_device.specs.Disk.{Files}
use Rattle.gob_volume.specs.declared.file_table.FileTable.{FileTable}

abbrev pub map_of : FileTable → Files
map_of t = at_name t.entries.items
