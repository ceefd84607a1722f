-- The machine with the language of its steps, the bytes of its entries and of its states, and the states that a run may start from. Assumes nothing.
use Rattle.schedule.specs.Running.{Runner}
use Rattle.schedule.specs.Spelling as spelled
use Rattle.flat.specs.Flat.{flat}
use Rattle.flat.specs.Refined.{Sound}
use Rattle.flat.specs.Image.{entry_bytes, image_bytes}

-- a run starts from a sound state
abbrev pub runner : Runner
runner = record { machine = flat; language = spelled.flat; bytes = entry_bytes; image = image_bytes; Good = Sound }
