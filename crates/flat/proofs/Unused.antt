-- Every accepted step leaves the rows whole and unused entries zero. Assumes nothing.
use Prim.Native.Nat.{ℕ, ◌+◌, ◌<◌}
use mathlib.Core.Path.{◌≡◌, refl, ap}
use mathlib.Core.Bool.{true, false}
use mathlib.Core.List.{List}
use native.Mathlib.Omega.{arith}
use lib.Dec.{ltb}
use lib.ListN.{length, set, replicate, length-replicate, length-set}
use lib.Seq.{get_or-set_other}
use borrow.Author.Tests.{ltb-true}
use Rattle.rows.proofs.Cases.{clash}
use Rattle.rows.proofs.Rows.{get_d_replicate}
use Rattle.rows.proofs.Row.{row_case}
use Rattle.machine.specs.Machine.{Accepted}
use Rattle.schedule.specs.Limits as limit
use Rattle.schedule.specs.declared.steps.FlatStep.{FlatStep}
use Rattle.schedule.specs.declared.steps.FlatStep.TheVariants.{ClientSend, ClientRecv, CombinerRecv, CombinerSkip, CombinerGoToResponding}
use Rattle.schedule.specs.declared.steps.FlatStep.TheVariants.{CombinerSend, CombinerSendSkip, CombinerGoToCollecting}
use Rattle.flat.specs.Flat.{flat, zero_client, zero_elem, next}
use Rattle.flat.specs.declared.state.Client.{Client}
use Rattle.flat.specs.declared.state.Elem.{Elem}
use Rattle.flat.specs.declared.state.State.{State}
use Rattle.flat.proofs.Stages.{ClientRow, ElemRow, Rows}

pub fresh_clients : (count : ℕ) → ClientRow count (replicate limit.clients zero_client)
fresh_clients count = record { whole = length-replicate limit.clients zero_client; unused = λ j h. get_d_replicate limit.clients j zero_client }

pub fresh_elems : ElemRow 0 (replicate limit.clients zero_elem)
fresh_elems =
    record {
      whole = length-replicate limit.clients zero_elem;
      unused = λ j h. get_d_replicate limit.clients j zero_elem;
      no_id = λ j h. ap (λ (e : Elem). e.rid) (get_d_replicate limit.clients j zero_elem);
    }

set_client : (count k : ℕ) (cs : List Client) (c : Client) → k < count → ClientRow count cs → ClientRow count (set cs k c)
set_client count k cs c h r =
    record {
      whole = rw length-set r.whole;
      unused = λ j b. rw (get_or-set_other cs k j c zero_client (λ e. omega arith)) (r.unused j b);
    }

set_elem : (len : ℕ) (es : List Elem) (e : Elem) → len < length es → (e.present ≡ false → e.rid ≡ 0) → ElemRow len es → ElemRow (len + 1) (set es len e)
set_elem len es e h z r =
    record {
      whole = rw length-set r.whole;
      unused = λ j b. rw (get_or-set_other es len j e zero_elem (λ q. omega arith)) (r.unused j (omega arith));
      no_id = λ j. row_case (λ x. x.present ≡ false → x.rid ≡ 0) es len j e zero_elem h (λ q. z) (λ n. r.no_id j);
    }

module _ (s : State) (r : Rows s) where
  -- a client, or an element, below the count is in its row
  pub in_clients : (k : ℕ) → ltb k s.count ≡ true → k < length s.clients
  in_clients k t = omega (arith, ltb-true k s.count t, r.few, r.clients.whole)

  pub in_elems : (k : ℕ) → ltb k s.count ≡ true → k < length s.elems
  in_elems k t = omega (arith, ltb-true k s.count t, r.few, r.elems.whole)

  put_client : (k : ℕ) (c : Client) → ltb k s.count ≡ true → ClientRow s.count (set s.clients k c)
  put_client k c t = set_client s.count k s.clients c (ltb-true k s.count t) r.clients

  pub rows_next : (x : FlatStep) → Accepted flat s x → Rows (next s x)
  rows_next (ClientSend k rid req) p = record { few = r.few; clients = put_client k _ p.0; elems = r.elems }
  rows_next (ClientRecv k) p = record { few = r.few; clients = put_client k _ p.0; elems = r.elems }
  rows_next CombinerRecv p =
      record {
        few = r.few;
        clients = put_client s.len _ p.1.0;
        elems = set_elem s.len s.elems _ (in_elems s.len p.1.0) (λ e. clash (cc)) r.elems;
      }
  rows_next CombinerSkip p =
      record { few = r.few; clients = r.clients; elems = set_elem s.len s.elems zero_elem (in_elems s.len p.1.0) (λ e. refl) r.elems }
  rows_next CombinerGoToResponding p = record { few = r.few; clients = r.clients; elems = r.elems }
  rows_next (CombinerSend rid resp) p = record { few = r.few; clients = put_client s.idx _ p.1.0; elems = r.elems }
  rows_next CombinerSendSkip p = record { few = r.few; clients = r.clients; elems = r.elems }
  rows_next CombinerGoToCollecting p = record { few = r.few; clients = r.clients; elems = fresh_elems }
