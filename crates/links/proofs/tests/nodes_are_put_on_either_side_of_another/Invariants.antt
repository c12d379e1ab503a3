use Rattle.links.proofs.tests.nodes_are_put_on_either_side_of_another.Given as goal

abbrev pub ghosts-put_beside : goal.ghosts-put_beside
ghosts-put_beside g a = record { name = a.blank.name; parts = a.blank.parts }
