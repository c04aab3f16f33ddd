mod AllClosings
mod Closings
mod EachClosing
mod Endings
mod Leavings
mod OnceGivings
mod Pollings
mod Roundings
