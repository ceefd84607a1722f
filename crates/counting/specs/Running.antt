-- The counting machine with its files: what is replayed of them. Assumes nothing.
use Rattle.schedule.specs.Running.{Runner}
use Rattle.schedule.specs.Spelling as spelled
use Rattle.counting.specs.Counting.{counting}
use Rattle.counting.specs.Image.{entry_bytes, image_bytes}
use Rattle.counting.specs.Refined.{Sound}

-- a run starts from a sound state
abbrev pub runner : Runner
runner = record { machine = counting; language = spelled.counting; bytes = entry_bytes; image = image_bytes; Good = Sound }
