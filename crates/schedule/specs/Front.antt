-- A file up to its first step: the scope, codes 1 to 5, in rising order. Assumes nothing.
use Rattle.std.specs.Prelude.{ℕ, ◌-◌, Bool, cond, not, List, eqb, ltb, length, get_or, Result, Ok, Err}
use Rattle.rows.specs.Bytes.{number_at}
use Rattle.schedule.specs.Widths.{flat, lock, counting, flag}
use Rattle.schedule.specs.Limits as limit
use Rattle.machine.specs.Codes as code
use Rattle.schedule.specs.declared.steps.Params as Params
use Rattle.schedule.specs.declared.front.Fault.{Fault}
use Rattle.schedule.specs.declared.front.Fault.TheVariants.{Length, Version, Body, Kind, Parameter, Step, Surplus}
use Rattle.schedule.specs.declared.front.Opened as front

-- the scope's number and place of each fault
abbrev pub fault_code : Fault → ℕ
fault_code Length = code.wrong_length
fault_code Version = code.version
fault_code Body = code.body
fault_code Kind = code.kind
fault_code Parameter = code.parameter
fault_code (Step k) = code.malformed
fault_code Surplus = code.surplus

abbrev pub fault_place : Fault → ℕ
fault_place Length = 0
fault_place Version = 0
fault_place Body = 0
fault_place Kind = 0
fault_place Parameter = 0
fault_place (Step k) = k
fault_place Surplus = limit.steps

-- a file's fault, or its parameters and the place of its first step
abbrev pub Opened : Type 0
Opened = Result front.Opened Fault

abbrev pub open_at : Params.Params → ℕ → Opened
open_at params from = Ok (record { params = params; from = from })

-- a fault is given exactly when its test says so, and else the tests go on
abbrev pub given : Fault → Bool → Opened → Opened
given fault wrong more = cond wrong (Err fault) more

-- the parameters of each kind, behind the kind's byte at place 3
abbrev pub flat_front : List ℕ → Opened
flat_front f =
    given Parameter (ltb (length f) 5)
    (given Parameter (ltb limit.clients (get_or f 4 0))
    (open_at (Params.TheVariants.Flat (get_or f 4 0)) 5))

abbrev pub lock_front : List ℕ → Opened
lock_front f =
    given Parameter (ltb (length f) 9)
    (given Parameter (eqb (get_or f 4 0) 0)
    (given Parameter (ltb limit.width (get_or f 4 0))
    (open_at (Params.TheVariants.Lock (get_or f 4 0) (number_at f 5 4)) 9)))

abbrev pub flag_front : List ℕ → Opened
flag_front f =
    given Parameter (ltb (length f) 6)
    (given Parameter (eqb (get_or f 4 0) 0)
    (given Parameter (ltb limit.threads (get_or f 4 0))
    (given Parameter (ltb 1 (get_or f 5 0))
    (open_at (Params.TheVariants.Flag (get_or f 4 0) (eqb (get_or f 5 0) 1)) 6))))

abbrev pub kind_front : ℕ → List ℕ → Opened
kind_front k f =
    cond (eqb k flat) (flat_front f)
    (cond (eqb k lock) (lock_front f)
    (cond (eqb k counting) (open_at Params.TheVariants.Counting 4)
    (cond (eqb k flag) (flag_front f)
    (Err Kind))))

-- byte 0 is the version; bytes 1 and 2 are the body's length, which must be that of what follows; byte 3 is the kind
unfoldable pub opened_of : List ℕ → Opened
opened_of f =
    given Length (ltb (length f) 4)
    (given Length (not (eqb (number_at f 1 2) (length f - 3)))
    (given Version (not (eqb (get_or f 0 0) 1))
    (given Body (ltb limit.body (length f - 3))
    (kind_front (get_or f 3 0) f))))
