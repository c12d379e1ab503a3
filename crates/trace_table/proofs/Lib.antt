pub mod CallerLemmas
mod RankLemmas
mod RowLemmas
mod Sorting
mod TraceLemmas
