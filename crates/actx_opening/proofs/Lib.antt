mod Counts
mod Freezes
mod Literals
mod Numbers
mod Protos
mod StartKinds
mod Tables
