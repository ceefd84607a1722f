-- Each arm is its step's own: it logs nothing, but for client_recv. Assumes nothing.
use mathlib.Core.Path.{refl}
use Rattle.flat.proofs.Applied.{quiet_accepts}
use Rattle.flat.proofs.apply.StateStepped.apply.Goals as goal

pub returns-in_ok-client_send-in-ClientSend : goal.returns-in_ok-client_send-in-ClientSend
returns-in_ok-client_send-in-ClientSend c = λ safe. quiet_accepts _ _ _ c.in-ClientSend.is refl _ (c.in_ok-client_send-in-ClientSend.ensures safe) _ _

pub returns-in_ok-combiner_recv-in-CombinerRecv : goal.returns-in_ok-combiner_recv-in-CombinerRecv
returns-in_ok-combiner_recv-in-CombinerRecv c = λ safe. quiet_accepts _ _ _ c.in-CombinerRecv.is refl _ (c.in_ok-combiner_recv-in-CombinerRecv.ensures safe) _ _

pub returns-in_ok-combiner_skip-in-CombinerSkip : goal.returns-in_ok-combiner_skip-in-CombinerSkip
returns-in_ok-combiner_skip-in-CombinerSkip c = λ safe. quiet_accepts _ _ _ c.in-CombinerSkip.is refl _ (c.in_ok-combiner_skip-in-CombinerSkip.ensures safe) _ _

pub returns-in_ok-combiner_go_to_responding-in-CombinerGoToResponding : goal.returns-in_ok-combiner_go_to_responding-in-CombinerGoToResponding
returns-in_ok-combiner_go_to_responding-in-CombinerGoToResponding c = λ safe. quiet_accepts _ _ _ c.in-CombinerGoToResponding.is refl _ (c.in_ok-combiner_go_to_responding-in-CombinerGoToResponding.ensures safe) _ _

pub returns-in_ok-combiner_send-in-CombinerSend : goal.returns-in_ok-combiner_send-in-CombinerSend
returns-in_ok-combiner_send-in-CombinerSend c = λ safe. quiet_accepts _ _ _ c.in-CombinerSend.is refl _ (c.in_ok-combiner_send-in-CombinerSend.ensures safe) _ _

pub returns-in_ok-combiner_send_skip-in-CombinerSendSkip : goal.returns-in_ok-combiner_send_skip-in-CombinerSendSkip
returns-in_ok-combiner_send_skip-in-CombinerSendSkip c = λ safe. quiet_accepts _ _ _ c.in-CombinerSendSkip.is refl _ (c.in_ok-combiner_send_skip-in-CombinerSendSkip.ensures safe) _ _

pub returns-in_ok-combiner_go_to_collecting-in-CombinerGoToCollecting : goal.returns-in_ok-combiner_go_to_collecting-in-CombinerGoToCollecting
returns-in_ok-combiner_go_to_collecting-in-CombinerGoToCollecting c = λ safe. quiet_accepts _ _ _ c.in-CombinerGoToCollecting.is refl _ (c.in_ok-combiner_go_to_collecting-in-CombinerGoToCollecting.ensures safe) _ _
