pub mod CallerLemmas
mod DeedLaws
mod EventLaws
mod FaultLaws
mod HistoryLaws
mod KeepLaws
mod LayoutLaws
mod LeftLaws
mod NameLaws
mod NullLaws
mod PlanLaws
mod ScheduleLaws
mod SnapshotLaws
mod SoundLaws
mod TakenLaws
mod TraceLaws
mod WaitLaws
