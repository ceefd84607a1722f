-- `apply` meets its contract: each arm's step stands, and logs nothing or one entry. Assumes nothing.
use mathlib.Core.Path.{refl}
use Rattle.schedule.specs.declared.steps.LockStep.TheVariants.{ExcStart, ExcCheckCount, ExcRelease, SharedStart, SharedRelease}
use Rattle.lock.proofs.Stepping.{quiet}
use Rattle.lock.proofs.apply.StateStepped.apply.Goals as goal

pub returns-in_ok-exc_start-in-ExcStart : goal.returns-in_ok-exc_start-in-ExcStart
returns-in_ok-exc_start-in-ExcStart c =
    let a = c.args in
    let u = c.in_ok-exc_start-in-ExcStart.field-0 in
    λ safe. quiet a.self.now a.x ExcStart c.in-ExcStart.is a.log.now a.at u c.exc_start.new.self c.in_ok-exc_start-in-ExcStart.ensures refl

pub returns-in_ok-exc_check_count-in-ExcCheckCount : goal.returns-in_ok-exc_check_count-in-ExcCheckCount
returns-in_ok-exc_check_count-in-ExcCheckCount c =
    let a = c.args in
    let u = c.in_ok-exc_check_count-in-ExcCheckCount.field-0 in
    λ safe. quiet a.self.now a.x ExcCheckCount c.in-ExcCheckCount.is a.log.now a.at u c.exc_check_count.new.self (c.in_ok-exc_check_count-in-ExcCheckCount.ensures safe) refl

pub returns-in_ok-exc_release-in-ExcRelease : goal.returns-in_ok-exc_release-in-ExcRelease
returns-in_ok-exc_release-in-ExcRelease c =
    let a = c.args in
    let u = c.in_ok-exc_release-in-ExcRelease.field-0 in
    λ safe. quiet a.self.now a.x (ExcRelease c.in-ExcRelease.t) c.in-ExcRelease.is a.log.now a.at u c.exc_release.new.self c.in_ok-exc_release-in-ExcRelease.ensures refl

pub returns-in_ok-shared_start-in-SharedStart : goal.returns-in_ok-shared_start-in-SharedStart
returns-in_ok-shared_start-in-SharedStart c =
    let a = c.args in
    let u = c.in_ok-shared_start-in-SharedStart.field-0 in
    λ safe. quiet a.self.now a.x (SharedStart c.in-SharedStart.r) c.in-SharedStart.is a.log.now a.at u c.shared_start.new.self (c.in_ok-shared_start-in-SharedStart.ensures safe) refl

pub returns-in_ok-shared_release-in-SharedRelease : goal.returns-in_ok-shared_release-in-SharedRelease
returns-in_ok-shared_release-in-SharedRelease c =
    let a = c.args in
    let u = c.in_ok-shared_release-in-SharedRelease.field-0 in
    λ safe. quiet a.self.now a.x (SharedRelease c.in-SharedRelease.r c.in-SharedRelease.t) c.in-SharedRelease.is a.log.now a.at u c.shared_release.new.self (c.in_ok-shared_release-in-SharedRelease.ensures safe) refl
