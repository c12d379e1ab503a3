-- Behind a `&` to a shell nothing is owned. Assumes `Logic`.
use base.Fraction.{full_share}
use denote.Memory.{part_at}
use denote.SharingLaws.{nothing_shr_laws}
use denote.Struct.Lending.{Lends-nothing}
use Rattle.raw_region.specs.contracts.shell.Shell as Shell
use Rattle.raw_region.proofs.shell.Shell.TheLaw.Statement.{statement}

pub shares : statement
shares = record {
  shr_laws = λ e b o. nothing_shr_laws;
  shares = λ M 𝓤 𝓛 e κ ts b o. Lends-nothing 𝓛 (part_at Shell.the_written full_share e b o) Shell.the_written.lives κ ts;
}
