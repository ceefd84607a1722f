-- The number of each answer: the scope, "Codes". Tests go by rising number. Assumes nothing.
use Rattle.std.specs.Prelude.{ℕ}

-- all steps accepted
abbrev pub accepted : ℕ
accepted = 0

-- under 4 bytes, or wrong body length
abbrev pub wrong_length : ℕ
wrong_length = 1

-- a version that is not 1
abbrev pub version : ℕ
version = 2

-- body over its limit
abbrev pub body : ℕ
body = 3

-- unknown kind
abbrev pub kind : ℕ
kind = 4

-- parameter missing or outside its limits
abbrev pub parameter : ℕ
parameter = 5

-- step length 0, past the body, or not its tag's; tag unknown
abbrev pub malformed : ℕ
malformed = 6

-- bytes remain after the last step that a file may have
abbrev pub surplus : ℕ
surplus = 7

-- a buffer is too short
abbrev pub room : ℕ
room = 8

-- the state given is not sound
abbrev pub unsound : ℕ
unsound = 10

-- a client, cell or thread outside the machine
abbrev pub outside : ℕ
outside = 11

-- wrong phase
abbrev pub phase : ℕ
phase = 12

-- cursor not where the step needs it
abbrev pub cursor : ℕ
cursor = 13

-- slot set at client_recv, clear at combiner_recv
abbrev pub slot : ℕ
slot = 14

-- the element is not this rid, or holds an id
abbrev pub element : ℕ
element = 15

-- count not zero
abbrev pub count : ℕ
count = 16

-- no pending reader, or not that very guard or ref
abbrev pub missing : ℕ
missing = 17

-- a counter at its limit
abbrev pub full : ℕ
full = 18
