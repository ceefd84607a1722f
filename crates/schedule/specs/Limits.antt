-- How large anything may be: the scope, "Port order and sizes". Assumes nothing.
use Rattle.std.specs.Prelude.{ℕ}

-- clients 0 to 16, lock width 1 to 16, threads 1 to 8
abbrev pub clients : ℕ
clients = 16

abbrev pub width : ℕ
width = 16

abbrev pub threads : ℕ
threads = 8

-- a counter's largest value, a file's most steps, a body's most bytes
abbrev pub counter : ℕ
counter = 255

abbrev pub steps : ℕ
steps = 4096

abbrev pub body : ℕ
body = 49152

-- bytes of log that a step may take, and the least length of a state buffer
abbrev pub entry : ℕ
entry = 10

abbrev pub image : ℕ
image = 512
