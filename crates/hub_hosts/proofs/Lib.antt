mod Absolute
mod DriveNames
mod DriveText
mod Machines
mod NoLf
mod Numbers
mod Stays
mod TableLines
