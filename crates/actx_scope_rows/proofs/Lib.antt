mod LowTrees
