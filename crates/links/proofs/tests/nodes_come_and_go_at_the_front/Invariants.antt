use Rattle.links.proofs.tests.nodes_come_and_go_at_the_front.Given as goal

abbrev pub ghosts-come_and_go : goal.ghosts-come_and_go
ghosts-come_and_go g a = record { name = a.blank.name; parts = a.blank.parts }
