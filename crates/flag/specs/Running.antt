-- The flag with its files: what is replayed of them. Assumes nothing.
use Rattle.schedule.specs.Running.{Runner}
use Rattle.schedule.specs.Spelling as spelled
use Rattle.flag.specs.Flag.{flag}
use Rattle.flag.specs.Image.{entry_bytes, image_bytes}
use Rattle.flag.specs.Refined.{Sound}

-- a run starts from a sound state
abbrev pub runner : Runner
runner = record { machine = flag; language = spelled.flag; bytes = entry_bytes; image = image_bytes; Good = Sound }
