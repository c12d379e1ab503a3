use denote.Param.Send.{IsSync}
use Rattle.raw_region.specs.contracts.shell.Shell as Shell

pub sync : IsSync Shell.the_row
sync = record { shared = λ e b o κ. tt }
